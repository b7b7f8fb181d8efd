-- One line more goes from what is left to what was read, and where nothing is left all was read. A line that is no call is the
-- first of what is left.
use Rattle.std.proofs.Common.{◌≡◌, ◌<◌, IfSome, Option, List, length, vec_items, sym, refl, ap, ◌∙◌, subst, arith}
use Rattle.std.proofs.ByRecursion.{All-push}
use Rattle.subject.specs.declared.money.Money.{Money}
use Rattle.job.specs.declared.list.Call.{Call}
use Rattle.job.specs.declared.list.Entry.{Entry}
use Rattle.job.specs.declared.list.Answer.TheVariants.{Untried}
use Rattle.job.specs.Replay.{calls_of}
use Rattle.job.specs.Texts.{call_text}
use Rattle.job.specs.Scripts.{AllUntried}
use Rattle.job.proofs.Listing.{Reading, reading_more, cut_shorter, calls_push, not_empty}
use Rattle.job.proofs.script.read_lines.Goals as goal

pub loop-rest-preserved : goal.loop-rest-preserved
loop-rest-preserved c =
    let text = c.args.text.now in
    let entries = vec_items c.loop-rest.entries in
    let line = c.cut_line.result.0.now in
    let others = c.cut_line.result.1.now in
    let call = c.in-Some.call in
    let new : Entry Money = record { call = call; answer = Untried } in
    let some = not_empty c.loop-rest.rest.now c.loop-rest-test.ensures in
    let is : line ≡ call_text call = subst (λ (o : Option Call). IfSome o (λ k. line ≡ call_text k)) c.in-Some.is c.in_ok-call.ensures.some in
    let more = reading_more text (calls_of entries) c.loop-rest.rest.now line others call some c.loop-rest.invariant.0 c.cut_line.ensures.cut is in
    let items = c.in_ok-push-in-Some.ensures.items in
    let calls = ap calls_of items ∙ calls_push entries new in
    let shorter : length others < length c.loop-rest.rest.now = cut_shorter c.loop-rest.rest.now line others some c.cut_line.ensures.cut in (
      subst (λ (cs : List Call). Reading text cs others) (sym calls) more,
      subst AllUntried (sym items) (All-push (λ (e : Entry Money). e.answer ≡ Untried) entries new c.loop-rest.invariant.1 refl),
      omega (arith, c.loop-rest.invariant.2, c.in_ok-push-in-Some.ensures),
    )

use Rattle.std.proofs.Common.{◌≡◌, ℕ, List, sym, ◌∙◌, subst, append_assoc, append-nil, string_bytes}
use Rattle.std.proofs.lemmas.Str.{IsUtf8-past_char}
use Rattle.drawing.specs.Escapes.{escaped, IsPlain}
use Rattle.drawing.proofs.Plain.{escaped_empty, escaped_step, escaped-IsPlain}
use Rattle.drawing.proofs.escape.escape.Goals as goal

pub loop-c-preserved : goal.loop-c-preserved
loop-c-preserved c =
    let held = c.loop-c.invariant in
    let parts = c.in-Some.ensures.steps.0 in
    let step = escaped_step _ _ c.in-Some.c held.0 parts in
    (IsUtf8-past_char _ _ c.in-Some.c held.0 parts, rw (c.in_ok-push_escaped.ensures, append_assoc) (rw step at held.1))

pub returns-clause-value : goal.returns-clause-value
returns-clause-value c =
    sym (append-nil _) ∙ rw (escaped_empty _ c.in-None.ensures.steps.0.0) at c.loop-c.invariant.1

pub returns-clause-plain : goal.returns-clause-plain
returns-clause-plain c =
    let value : string_bytes c.loop-c.out ≡ escaped c.args.text.now =
    sym (append-nil _) ∙ rw (escaped_empty _ c.in-None.ensures.steps.0.0) at c.loop-c.invariant.1 in
    let P : List ℕ → Type 0 = λ t. IsPlain t in
    subst P (sym value) (escaped-IsPlain c.args.text.now)

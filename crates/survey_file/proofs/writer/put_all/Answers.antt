-- The fields of the entries so far stand in the bytes, and there is room for each, so that none is refused.
use Rattle.std.proofs.Common.{length, sym, refl, arith}
use Rattle.std.proofs.lemmas.Option.{slice_get_read}
use Rattle.survey_file.proofs.Writing.{not_refused, put_more}
use Rattle.survey_file.proofs.writer.put_all.Goals as goal

pub returns-in_err-at : goal.returns-in_err-at
returns-in_err-at g c =
    let loop = c.loop-entry in
    let entry = slice_get_read c.args.entries.now (length c.args.entries.now) loop.entry-index c.entry-item.result refl (omega (arith, c.loop-entry-test.true)) c.entry-item.is in
    absurd (not_refused g.E.Entry.bytes c.args.entries.now c.args.out.now c.args.start loop.entry-index loop.at loop.out c.requires.room loop.invariant
    c.entry-item.result _ (sym entry) c.in_err-at.ensures.answer)

pub loop-entry-preserved : goal.loop-entry-preserved
loop-entry-preserved g c =
    let loop = c.loop-entry in
    let entry = slice_get_read c.args.entries.now (length c.args.entries.now) loop.entry-index c.entry-item.result refl (omega (arith, c.loop-entry-test.true)) c.entry-item.is in
    put_more g.E.Entry.bytes c.args.entries.now c.args.out.now c.args.start loop.entry-index loop.at loop.out c.requires.room loop.invariant
    c.entry-item.result c.in_ok-at.at c.put.new.out (sym entry) c.in_ok-at.ensures.answer c.in_ok-at.ensures.after

-- A field passes or is the first that does not.
use Rattle.std.proofs.Common.{arith, ◌∙◌, ap, Err}
use Rattle.std.proofs.lemmas.Result.{err_from_is_err_and}
use Rattle.csv.specs.Records.{fields_of}
use Rattle.survey_text.proofs.FieldFacts.{check_failed, check_passed}
use Rattle.survey_text.proofs.field.check_row.Goals as goal

pub returns-in_err-check_text : goal.returns-in_err-check_text
returns-in_err-check_text c =
    let p = err_from_is_err_and c.from_residual.result c.from_residual.ensures.1 in
    let refused = check_failed (fields_of c.args.row.now) c.loop-place.place c.field.result.now c.in_err-check_text.field-0.0
    (omega (arith, c.len-place-end.ensures)) c.field.ensures c.in_err-check_text.ensures c.loop-place.invariant in
    p.1 ∙ ap Err p.2 ∙ refused

pub loop-place-preserved : goal.loop-place-preserved
loop-place-preserved c =
    check_passed (fields_of c.args.row.now) c.loop-place.place c.field.result.now c.in_ok-check_text.field-0
    (omega (arith, c.len-place-end.ensures)) c.field.ensures c.in_ok-check_text.ensures c.loop-place.invariant

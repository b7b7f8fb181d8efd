-- A blank field is passed, the first other one is found.
use Rattle.std.proofs.Common.{arith}
use Rattle.csv.specs.Records.{fields_of}
use Rattle.survey_text.proofs.FieldFacts.{filled_found, filled_passed}
use Rattle.survey_text.proofs.field.first_filled.Goals as goal

pub returns-then-not-is_empty : goal.returns-then-not-is_empty
returns-then-not-is_empty c =
    filled_found (fields_of c.args.row.now) c.loop-place.place c.args.start c.field-field.result.now (omega (arith, c.len-place-end.ensures)) c.field-field.ensures c.if-not-is_empty.ensures c.loop-place.invariant

pub loop-place-preserved : goal.loop-place-preserved
loop-place-preserved c =
    filled_passed (fields_of c.args.row.now) c.loop-place.place c.args.start c.field-field.result.now (omega (arith, c.len-place-end.ensures)) c.field-field.ensures c.if-not-is_empty.ensures c.loop-place.invariant

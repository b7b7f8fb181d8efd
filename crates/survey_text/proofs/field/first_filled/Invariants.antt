-- The first field that is filled is among those that are left.
use Rattle.std.proofs.Common.{◌≡◌, drop}
use Rattle.csv.specs.Records.{fields_of}
use Rattle.survey_text.specs.Fields.{first_filled}
use Rattle.survey_text.proofs.field.first_filled.Given as goal

abbrev pub invariant-loop-place : goal.invariant-loop-place
invariant-loop-place l = first_filled (drop l.place (fields_of l.row)) ≡ first_filled (drop l.start (fields_of l.row))

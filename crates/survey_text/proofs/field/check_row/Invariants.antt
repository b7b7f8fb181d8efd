-- What is left to check is what is to be checked of all.
use Rattle.std.proofs.Common.{◌≡◌, drop}
use Rattle.csv.specs.Records.{fields_of}
use Rattle.survey_text.specs.Fields.{row_check}
use Rattle.survey_text.proofs.field.check_row.Given as goal

abbrev pub invariant-loop-place : goal.invariant-loop-place
invariant-loop-place l = row_check (drop l.place (fields_of l.row)) ≡ row_check (fields_of l.row)

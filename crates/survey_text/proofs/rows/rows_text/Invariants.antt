-- The text of the rows that were passed is written, and the writer stands between two rows.
use Rattle.std.proofs.Common.{◌≡◌, take, map, Vec, Global, Some, ℕ, false, true}
use Rattle.csv.specs.Records.{fields_of}
use Rattle.csv.specs.Writing.{default_writer, with_flexible, writer_setup, fields_written, has_written, text_written}
use Rattle.survey_text.specs.Written.{rows_text}
use Rattle.survey_text.proofs.rows.rows_text.Given as goal

abbrev pub invariant-loop-row : goal.invariant-loop-row
invariant-loop-row l =
    (writer_setup l.writer ≡ with_flexible default_writer true) × (fields_written l.writer ≡ 0) × (has_written l.writer ≡ false)
    × (text_written (λ (v : Vec ℕ Global). Some v.items) l.writer ≡ Some (rows_text (map fields_of (take l.row-index l.rows))))

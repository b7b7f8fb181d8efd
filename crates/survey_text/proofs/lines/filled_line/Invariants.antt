-- The rest is the text from the line that the counter has come to.
use Rattle.std.proofs.Common.{◌≡◌, ◌≤◌, length}
use Rattle.survey_text.specs.Filled.{from_line}
use Rattle.survey_text.proofs.lines.filled_line.Given as goal

abbrev pub invariant-loop : goal.invariant-loop
invariant-loop l = (l.rest ≡ from_line l.text l.counter) × (length l.rest ≤ length l.text)

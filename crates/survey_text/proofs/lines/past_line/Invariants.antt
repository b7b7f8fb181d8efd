-- What is behind the first line of the rest is what is behind that of the text.
use Rattle.std.proofs.Common.{◌≡◌, length}
use Rattle.survey_text.specs.Filled.{past_line}
use Rattle.survey_text.proofs.lines.past_line.Given as goal

abbrev pub invariant-loop-rest : goal.invariant-loop-rest
invariant-loop-rest l = past_line l.rest ≡ past_line l.text

abbrev pub decreases-loop-rest : goal.decreases-loop-rest
decreases-loop-rest l = length l.rest

-- What is behind the line ends of the rest is what is behind those of the text.
use Rattle.std.proofs.Common.{◌≡◌, length}
use Rattle.survey_text.specs.Lines.{past_breaks}
use Rattle.survey_text.proofs.lines.past_breaks.Given as goal

abbrev pub invariant-loop-rest : goal.invariant-loop-rest
invariant-loop-rest l = past_breaks l.rest ≡ past_breaks l.text

abbrev pub decreases-loop-rest : goal.decreases-loop-rest
decreases-loop-rest l = length l.rest

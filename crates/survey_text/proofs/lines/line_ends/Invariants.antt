-- The ends that were counted and those of the rest are those of the text; each byte ends one line at most.
use Rattle.std.proofs.Common.{◌≡◌, ◌+◌, ◌≤◌, length}
use Rattle.survey_text.specs.Lines.{line_ends}
use Rattle.survey_text.proofs.lines.line_ends.Given as goal

abbrev pub invariant-loop-rest : goal.invariant-loop-rest
invariant-loop-rest l = (l.ends + line_ends l.rest ≡ line_ends l.text) × (l.ends + length l.rest ≤ length l.text)

abbrev pub decreases-loop-rest : goal.decreases-loop-rest
decreases-loop-rest l = length l.rest

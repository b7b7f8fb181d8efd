-- Before each turn some turns are left that give what the file says; each turn reads a byte at least.
use Rattle.std.proofs.Common.{◌-◌, length}
use Rattle.survey.specs.Contents.{contents}
use Rattle.survey_file.proofs.Turning.{TurnsLeft}
use Rattle.survey_file.proofs.reader.fill.Given as goal

abbrev pub invariant-loop-s : goal.invariant-loop-s
invariant-loop-s l = TurnsLeft l.bytes l.s (contents l.draft)

abbrev pub decreases-loop-s : goal.decreases-loop-s
decreases-loop-s l = length l.bytes - l.s.at

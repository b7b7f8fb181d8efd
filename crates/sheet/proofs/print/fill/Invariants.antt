-- What came so far is at the front of the buffer; each turn but the last reads a byte at least.
use Rattle.std.proofs.Common.{◌-◌, length}
use Rattle.sheet.specs.Filling.{Filled}
use Rattle.sheet.proofs.print.fill.Given as goal

abbrev pub invariant-loop-at : goal.invariant-loop-at
invariant-loop-at g l = Filled g.R.Read l.initial.source l.source l.initial.buffer l.buffer l.at

abbrev pub decreases-loop-at : goal.decreases-loop-at
decreases-loop-at g l = length l.buffer - l.at

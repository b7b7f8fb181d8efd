-- The rows before this one are blank, and the others as they were.
use Rattle.std.proofs.Common.{◌≡◌, ◌++◌, drop, replicate}
use Rattle.search.specs.Columns.{blank_row}
use Rattle.planner.proofs.start.clear.Given as goal

abbrev pub invariant-loop-row : goal.invariant-loop-row
invariant-loop-row g l = l.cells ≡ replicate l.row-index blank_row ++ drop l.row-index l.initial.cells

-- The ways below n are in the index, and the cells are as they were.
use Rattle.std.proofs.Common.{◌≡◌}
use Rattle.search.specs.Columns.{cells_of, heads_of, nexts_of}
use Rattle.search.specs.Index.{IsIndexed}
use Rattle.planner.proofs.index.build.Given as goal

abbrev pub invariant-loop-n : goal.invariant-loop-n
invariant-loop-n g l =
    (cells_of l.cells ≡ cells_of l.initial.cells)
    × IsIndexed (g.S.Site.meaning l.site) (heads_of l.cells) (nexts_of l.cells) l.n

-- The steps written so far are a trail from the cell `at` to the end; as many are left as that cell has steps.
use Rattle.std.proofs.Common.{◌≡◌, ℕ, take, drop, Some}
use Rattle.planner.specs.Workspaces.{problem}
use Rattle.search.specs.Rows.{Trail, reached_in}
use Rattle.search.specs.Columns.{cells_of}
use Rattle.planner.proofs.query.Query.trace.Given as goal

abbrev pub invariant-loop-left : goal.invariant-loop-left
invariant-loop-left g l =
    (drop l.end.steps l.run ≡ drop l.end.steps l.initial.run)
    × (l.here.steps ≡ l.left)
    × ((x : ℕ)
    × (reached_in (cells_of l.work.cells.now) x ≡ Some l.here)
    × Trail (problem l.self) (cells_of l.work.cells.now) x l.here (drop l.left (take l.end.steps l.run)) l.end.charge)

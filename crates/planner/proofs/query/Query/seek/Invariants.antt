-- What holds each time that a cell is to be taken, of state, rows and queue; the rows not yet settled get fewer.
use Rattle.std.proofs.Common.{◌-◌, length}
use Rattle.search.specs.Rows.{settled_count}
use Rattle.search.specs.Columns.{cells_of}
use Rattle.planner.specs.Workspaces.{problem, IsReady, SameWorkspace, RestState}
use Rattle.planner.proofs.query.Query.seek.Given as goal

abbrev pub invariant-loop-at : goal.invariant-loop-at
invariant-loop-at g l = record {
  ready : IsReady (problem l.self) g.Q.PriorityQueue l.work;
  same : SameWorkspace g.Q.PriorityQueue l.initial.work l.work;
  rest : RestState (problem l.self) g.Q.PriorityQueue l.work;
}

abbrev pub decreases-loop-at : goal.decreases-loop-at
decreases-loop-at g l = length l.initial.work.cells.now - settled_count (cells_of l.work.cells.now)

-- A write to one field of one row changes that column at one entry, and no other column; the queue has room for the cell.
use Rattle.std.proofs.Common.{refl}
use lib.Seq.{map-set, map-set_same}
use Rattle.planner.proofs.workspace.Workspace.wait.Goals as goal

pub returns-clause-index : goal.returns-clause-index
returns-clause-index g c = record {
  heads = map-set_same (λ r. r.head) c.args.self.now.cells.now c.args.at _ c.index-self-at.result refl;
  nexts = map-set_same (λ r. r.next) c.args.self.now.cells.now c.args.at _ c.index-self-at.result refl;
}

pub returns-clause-cells : goal.returns-clause-cells
returns-clause-cells g c = map-set (λ r. r.cell) c.args.self.now.cells.now c.args.at _

-- A write to one field of one row changes that column at one entry, and no other column.
use Rattle.std.proofs.Common.{refl}
use lib.Seq.{map-set, map-set_same}
use Rattle.planner.proofs.workspace.settle.Goals as goal

pub returns : goal.returns
returns g c = record {
  index = record {
    heads = map-set_same (λ r. r.head) c.args.cells.now c.args.at _ c.index-cells-at.result refl;
    nexts = map-set_same (λ r. r.next) c.args.cells.now c.args.at _ c.index-cells-at.result refl;
  };
  settling = record { was = c.reached_at-here.ensures; written = map-set (λ r. r.cell) c.args.cells.now c.args.at _ };
}

-- A write to the hint changes no column that the search speaks of.
use Rattle.std.proofs.Common.{refl}
use lib.Seq.{map-set_same}
use Rattle.planner.proofs.workspace.set_hint.Goals as goal

pub returns : goal.returns
returns g c = record {
  cells = map-set_same (λ r. r.cell) c.args.cells.now c.args.at _ c.index-cells-at.result refl;
  index = record {
    heads = map-set_same (λ r. r.head) c.args.cells.now c.args.at _ c.index-cells-at.result refl;
    nexts = map-set_same (λ r. r.next) c.args.cells.now c.args.at _ c.index-cells-at.result refl;
  };
}

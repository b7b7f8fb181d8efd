-- Two writes, each to one field of one row: the next way of `n`, and then the head of `at`.
use Rattle.std.proofs.Common.{refl, set, Some, None, ap, ◌∙◌}
use Rattle.search.specs.Columns.{nexts_of}
use Rattle.search.proofs.Tables.{read_column}
use lib.Seq.{map-set, map-set_same}
use Rattle.planner.proofs.index.put_first.Goals as goal

pub returns : goal.returns
returns g c =
    let rows = c.args.cells.now in record {
      cells = map-set_same (λ r. r.cell) _ c.args.at _ c.index-cells-at-2.result refl ∙ map-set_same (λ r. r.cell) rows c.args.n _ c.index-cells-n.result refl;
      heads = map-set (λ r. r.head) _ c.args.at _ ∙ ap (λ z. set z c.args.at (Some c.args.n)) (map-set_same (λ r. r.head) rows c.args.n _ c.index-cells-n.result refl);
      nexts = map-set_same (λ r. r.next) _ c.args.at _ c.index-cells-at-2.result refl ∙ map-set (λ r. r.next) rows c.args.n _ ∙ ap (λ z. set (nexts_of rows) c.args.n z) (read_column (λ r. r.head) rows c.args.at c.index-cells-at.result None c.requires.place);
    }

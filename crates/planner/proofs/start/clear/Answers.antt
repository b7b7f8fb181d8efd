-- One more row is blank; past the last one none is left.
use Rattle.std.proofs.Common.{◌≡◌, ℕ, suc, ◌+◌, ◌++◌, List, drop, replicate, set, ap, ◌∙◌, subst, arith}
use Rattle.search.specs.Columns.{blank_row}
use Rattle.search.specs.declared.cell.CellRow.{CellRow}
use Rattle.search.proofs.Tables.{fill_step}
use Rattle.planner.proofs.start.clear.Goals as goal

pub loop-row-preserved : goal.loop-row-preserved
loop-row-preserved g c =
    let rows = c.args.cells.now in
    let i = c.loop-row.row-index in
    let wrote : set c.loop-row.cells i c.blank.result ≡ set (replicate i blank_row ++ drop i rows) i blank_row = ap (λ (r : CellRow _). set c.loop-row.cells i r) c.blank.ensures ∙ ap (λ (z : List (CellRow _)). set z i blank_row) c.loop-row.invariant in
    subst (λ (n : ℕ). set c.loop-row.cells i c.blank.result ≡ replicate n blank_row ++ drop n rows) (let n : suc i ≡ i + 1 = omega arith in n) (wrote ∙ fill_step rows i blank_row (omega arith))

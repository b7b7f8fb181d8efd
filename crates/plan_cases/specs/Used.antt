-- Rows that hold something before a plan. Stands on the structs of the rows.
use Rattle.std.specs.Prelude.{◌≡◌, ℕ, true, Some, replicate, vec_len}
use Rattle.subject.specs.declared.run.Step.{Step}
use Rattle.search.specs.declared.cell.Cell.TheVariants.{Settled}
use Rattle.search.specs.declared.cell.CellRow.{CellRow}
use Rattle.search.specs.declared.check.RowCounts.{RowCounts}
use Rattle.tree_queue.specs.declared.row.QueueRow.{QueueRow}
use Rattle.plan_cases.specs.declared.rows.Rows.{Rows}

-- as many rows of each sort
abbrev pub as_many : ℕ → RowCounts
as_many n = record { cells = n; queue = n; run = n }

-- how many rows of each sort there are
abbrev pub counts_in : {C : Type 0} → Rows C → RowCounts
counts_in r = record { cells = vec_len r.cells; queue = vec_len r.queue; run = vec_len r.run }

-- rows as a plan might have left them, with the charge c
abbrev pub used_cell : {C : Type 0} → C → CellRow C
used_cell c = record {
  cell = Settled (record {
    charge = c;
    link = Some (record { from = 3; step = record { way = 7; mark = true } });
    steps = 5;
  });
  hint = Some 9;
  head = Some 1;
  next = Some 0;
}

abbrev pub used_queue_row : {C : Type 0} → C → QueueRow C
used_queue_row c = record { charge = c; cell = 7; position = 3 }

abbrev pub used_step : Step
used_step = record { way = 9; mark = true }

-- so many rows of each sort, all of them used
pub record AreUsed {C : Type 0} (c : C) (counts : RowCounts) (rows : Rows C) : Type 0 where
  pub cells : rows.cells.items ≡ replicate counts.cells (used_cell c)
  pub queue : rows.queue.items ≡ replicate counts.queue (used_queue_row c)
  pub run : rows.run.items ≡ replicate counts.run used_step

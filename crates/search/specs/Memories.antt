-- What a caller lends to a plan, as the rows and the queue behind its references. Stands on the rows.
use Rattle.std.specs.Prelude.{◌≡◌, List, length}
use Rattle.subject.specs.declared.queue.PriorityQueue.{Ghosts as QueueGhosts}
use Rattle.subject.specs.declared.run.Step.{Step}
use Rattle.search.specs.declared.cell.CellRow.{CellRow}
use Rattle.search.specs.declared.check.RowCounts.{RowCounts}
use Rattle.search.specs.declared.memory.Memory.{Memory}

-- cell rows, a queue and run rows
pub record LentMemory (C Q : Type 0) : Type 0 where
  pub cells : List (CellRow C)
  pub queue : Q
  pub run : List Step

abbrev pub lent_memory : {C Q : Type 0} → Memory C Q → LentMemory C Q
lent_memory m = record { cells = m.cells.now; queue = m.queue; run = m.run.now }

-- how many rows there are of each sort
abbrev pub counts_of : {C Q : Type 0} → QueueGhosts Q C → LentMemory C Q → RowCounts
counts_of q h = record { cells = length h.cells; queue = q.rows h.queue; run = length h.run }

-- the same rows are lent as before, as many of them
pub record SameLenders {C Q : Type 0} (q : QueueGhosts Q C) (m m' : Memory C Q) : Type 0 where
  pub cells : m'.cells.ghost_name ≡ m.cells.ghost_name
  pub queue : q.lenders m'.queue ≡ q.lenders m.queue
  pub run : m'.run.ghost_name ≡ m.run.ghost_name
  pub cell_count : length m'.cells.now ≡ length m.cells.now
  pub step_count : length m'.run.now ≡ length m.run.now

-- What owned rows hold, and what they come to when they are lent with a queue. Stands on the structs of the rows.
use Rattle.std.specs.Prelude.{◌≡◌, ℕ, false, length, replicate}
use Rattle.search.specs.Columns.{blank_row}
use Rattle.search.specs.Memories.{LentMemory}
use Rattle.search.specs.declared.owned.Filling.{Filling}
use Rattle.search.specs.declared.owned.OwnedRows.{OwnedRows}

-- so many rows of each sort, which hold the filling and nothing else
pub record Holds {C : Type 0} (count : ℕ) (filling : Filling C) (rows : OwnedRows C) : Type 0 where
  pub cells : rows.cells.items ≡ replicate count filling.cell
  pub run : rows.run.items ≡ replicate count filling.step

-- rows that tell nothing
abbrev pub blank_filling : {C : Type 0} → Filling C
blank_filling = record { cell = blank_row; step = record { way = 0; mark = false } }

-- cell rows and run rows that a program owns, lent with a queue
abbrev pub owned_memory : {C Q : Type 0} → OwnedRows C → Q → LentMemory C Q
owned_memory rows queue = record { cells = rows.cells.items; queue = queue; run = rows.run.items }

-- as many rows of each sort as before
pub record AsManyRows {C : Type 0} (rows rows' : OwnedRows C) : Type 0 where
  pub cells : length rows'.cells.items ≡ length rows.cells.items
  pub run : length rows'.run.items ≡ length rows.run.items

-- The rows of working memory, read by columns. Stands on nothing but the struct of a row.
use Rattle.std.specs.Prelude.{◌≡◌, ℕ, List, map, Some, None, Option}
use Rattle.search.specs.declared.cell.Cell.{Cell}
use Rattle.search.specs.declared.cell.Cell.TheVariants.{Unseen, Waiting, Settled}
use Rattle.search.specs.declared.cell.Reached.{Reached}
use Rattle.search.specs.declared.cell.CellRow.{CellRow}

abbrev pub cells_of : {C : Type 0} → List (CellRow C) → List (Cell C)
cells_of rows = map (λ r. r.cell) rows

abbrev pub heads_of : {C : Type 0} → List (CellRow C) → List (Option ℕ)
heads_of rows = map (λ r. r.head) rows

abbrev pub nexts_of : {C : Type 0} → List (CellRow C) → List (Option ℕ)
nexts_of rows = map (λ r. r.next) rows

-- how a cell was reached, where it was
abbrev pub reached_as : {C : Type 0} → Cell C → Option (Reached C)
reached_as Unseen = None
reached_as (Waiting r) = Some r
reached_as (Settled r) = Some r

-- a row that tells nothing
abbrev pub blank_row : {C : Type 0} → CellRow C
blank_row = record { cell = Unseen; hint = None; head = None; next = None }

-- the index of the ways is as it was
pub record SameIndex {C : Type 0} (rows rows' : List (CellRow C)) : Type 0 where
  pub heads : heads_of rows' ≡ heads_of rows
  pub nexts : nexts_of rows' ≡ nexts_of rows

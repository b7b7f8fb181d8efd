-- The rows of a queue as three columns, and a row that says nothing. Stands on the struct of a row.
use Rattle.std.specs.Prelude.{ℕ, List, map}
use Rattle.tree_queue.specs.declared.row.QueueRow.{QueueRow}

abbrev pub charges : {C : Type 0} → List (QueueRow C) → List C
charges rows = map (λ r. r.charge) rows

abbrev pub cells : {C : Type 0} → List (QueueRow C) → List ℕ
cells rows = map (λ r. r.cell) rows

abbrev pub positions : {C : Type 0} → List (QueueRow C) → List ℕ
positions rows = map (λ r. r.position) rows

abbrev pub blank_row : {C : Type 0} → C → QueueRow C
blank_row nothing = record { charge = nothing; cell = 0; position = 0 }

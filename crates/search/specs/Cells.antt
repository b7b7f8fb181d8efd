-- Cells, each a place together with a loss, as one number: place × (bound + 1) + loss. Stands on nothing but the bound of a request.
use Rattle.std.specs.Prelude.{ℕ, ◌+◌, ◌*◌, ◌/◌, ◌%◌}
use Rattle.subject.specs.Problems.{Problem}

unfoldable pub place_of : {C : Type 0} → Problem C → ℕ → ℕ
place_of P x = x / (P.request.bound + 1)

unfoldable pub loss_of : {C : Type 0} → Problem C → ℕ → ℕ
loss_of P x = x % (P.request.bound + 1)

-- how many cells there are: one for each place with each loss from 0 to the bound
abbrev pub cell_count : {C : Type 0} → Problem C → ℕ
cell_count P = P.site.places * (P.request.bound + 1)

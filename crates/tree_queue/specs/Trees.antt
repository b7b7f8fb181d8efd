-- The two trees over positions: in the binary tree 2 i + 1 and 2 i + 2 are below i, in the chain i + 1 is.
-- Stands on nothing.
use Rattle.std.specs.Prelude.{ℕ, ◌+◌, ◌-◌, ◌*◌, ◌/◌}

abbrev pub binary_parent : ℕ → ℕ
binary_parent k = (k - 1) / 2

abbrev pub binary_child : ℕ → ℕ
binary_child i = 2 * i + 1

abbrev pub chain_parent : ℕ → ℕ
chain_parent k = k - 1

abbrev pub chain_child : ℕ → ℕ
chain_child i = i + 1

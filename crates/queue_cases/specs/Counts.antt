-- The count after one more, which stays where it would be too large for 64 bits. Stands on nothing.
use Rattle.std.specs.Prelude.{ℕ, ◌+◌, min}

abbrev pub count_after : ℕ → ℕ
count_after n = min (n + 1) 18446744073709551615

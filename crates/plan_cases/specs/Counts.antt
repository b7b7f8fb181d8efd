-- How the program counts. Stands on nothing.
use Rattle.std.specs.Prelude.{ℕ, ◌+◌, min}

-- one more, up to the largest number that it can count to
abbrev pub count_after : ℕ → ℕ
count_after n = min (n + 1) 18446744073709551615

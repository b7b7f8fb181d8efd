-- How the program counts. Stands on nothing.
use Rattle.std.specs.Prelude.{ℕ, ◌+◌, min}

-- so many more, up to the largest number that it can count to
abbrev pub count_plus : ℕ → ℕ → ℕ
count_plus n more = min (n + more) 18446744073709551615

abbrev pub count_after : ℕ → ℕ
count_after n = count_plus n 1

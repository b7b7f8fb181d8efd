-- What is asked of a number in decimal. Stands on the digits that the standard library writes of a number.
use Rattle.std.specs.Prelude.{◌≡◌, ℕ, ◌<◌, [], ◌∷◌, decimal, slice_index}
use Rattle.std.specs.Str.Parse.{IsNumeral, digits_value}

pub record IsPlainDecimal (n : ℕ) : Type 0 where
  -- the bytes are decimal digits, at least one
  pub digits : IsNumeral 10 (decimal n)
  -- which read as the number
  pub reads : digits_value 10 (decimal n) ≡ n
  -- zero is a single 0 (byte 48)
  pub zero_is : n ≡ 0 → decimal n ≡ 48 ∷ []
  -- and no other number begins with one
  pub no_zero_first : 0 < n → 48 < slice_index (decimal n) 0

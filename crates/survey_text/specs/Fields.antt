-- The fields of a row: a field by its place, the first that is filled, what may stand in a field, and numbers.
-- Stands on the causes.
use Rattle.std.specs.Prelude.{ℕ, zero, suc, ◌+◌, Bool, cond, not, ◌&&◌, ◌||◌, List, [], ◌∷◌, length, Option}
use Rattle.std.specs.Prelude.{Some, None, Result, Ok, Err, ◌==◌, nat_lt, nat_le, drop}
use Rattle.std.specs.Char.{is_ascii_digit}
use Rattle.std.specs.Str.{is_utf8}
use Rattle.std.specs.Str.Parse.{digits_value}
use Rattle.std.specs.List.{list_all, list_any}
use Rattle.survey.specs.Checks.{then}
use Rattle.survey_text.specs.declared.trouble.Cause.{Cause}
use Rattle.survey_text.specs.declared.trouble.Cause.TheVariants.{NotText, ControlCharacter, Blank, NotNumber}
use Rattle.survey_text.specs.declared.trouble.Cause.TheVariants.{TooLarge, NotLetter, Behind}
use Rattle.survey_text.specs.declared.trouble.Column.{Column}
use Rattle.survey_text.specs.declared.trouble.Column.TheVariants.{Cable}
use Rattle.survey_text.specs.Columns.{index}

-- the fields of a row, as bytes
abbrev pub Row : Type 0
Row = List (List ℕ)

-- a field by its place; what a row does not have is blank
abbrev pub field : Row → ℕ → List ℕ
field [] i = []
field (f ∷ fs) zero = f
field (f ∷ fs) (suc i) = field fs i

abbrev pub is_blank : List ℕ → Bool
is_blank f = length f == 0

-- the first field that is not blank
abbrev pub first_filled : Row → Option (List ℕ)
first_filled [] = None
first_filled (f ∷ fs) = cond (is_blank f) (first_filled fs) (Some f)

-- the control characters are the bytes 0 to 31 and 127
abbrev pub is_control : ℕ → Bool
is_control b = nat_lt b 32 || (b == 127)

-- a field is UTF-8 with no control character
abbrev pub text_check : List ℕ → Result (Unit {0}) Cause
text_check f = cond (is_utf8 f) (cond (list_any is_control f) (Err ControlCharacter) (Ok tt)) (Err NotText)

-- each field of a row is
abbrev pub row_check : Row → Result (Unit {0}) Cause
row_check [] = Ok tt
row_check (f ∷ fs) = then (text_check f) (λ _. row_check fs)

-- one digit or more, and nothing else
abbrev pub is_number : List ℕ → Bool
is_number f = not (is_blank f) && list_all is_ascii_digit f

-- the number that a field writes, of at most `most`
abbrev pub number_of : Column → ℕ → List ℕ → Result ℕ Cause
number_of column most f =
    cond (is_blank f) (Err (Blank column))
    (cond (is_number f)
    (cond (nat_le (digits_value 10 f) most) (Ok (digits_value 10 f)) (Err (TooLarge column)))
    (Err (NotNumber column)))

-- the price of a repeater, or a blank, which is no repeater
abbrev pub repeater_of : Column → List ℕ → Result (Option ℕ) Cause
repeater_of column f = cond (is_blank f) (Ok None) (then (number_of column 4294967295 f) (λ n. Ok (Some n)))

-- the letter of a cable: a field of one byte
abbrev pub letter_of : List ℕ → Result ℕ Cause
letter_of [] = Err (Blank Cable)
letter_of (b ∷ []) = Ok b
letter_of (b ∷ c ∷ f) = Err NotLetter

-- nothing stands behind the last field of a row
abbrev pub end_check : Column → Row → Result (Unit {0}) Cause
end_check last r = nothing_check last (first_filled (drop (index last + 1) r)) where
  nothing_check : Column → Option (List ℕ) → Result (Unit {0}) Cause
  nothing_check last None = Ok tt
  nothing_check last (Some f) = Err (Behind last)

-- a field as a trouble tells it; one that is no UTF-8 is not told
abbrev pub word_of_field : List ℕ → List ℕ
word_of_field f = cond (is_utf8 f) f []

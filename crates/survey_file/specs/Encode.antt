-- The file that is written from the contents of a survey: the head, the places, the ways, the end. Numbers have their
-- high byte first. Stands on the contents of a survey.
use Rattle.std.specs.Prelude.{ℕ, ◌/◌, ◌%◌, ◌<◌, List, [], ◌∷◌, ◌++◌, length, Some, None, Option, slice_index}
use Rattle.std.specs.List.{flat_map}
use Rattle.survey.specs.declared.entry.Place.{Place}
use Rattle.survey.specs.declared.entry.WayEntry.{WayEntry}
use Rattle.survey.specs.Contents.{Contents}

-- tag 1, two bytes: the edition, which is 1
abbrev pub head_field : List ℕ
head_field = 1 ∷ 0 ∷ 2 ∷ 0 ∷ 1 ∷ []

-- tag 2: no body for a blank, or the price in four bytes
abbrev pub repeater_field : Option ℕ → List ℕ
repeater_field None = 2 ∷ 0 ∷ 0 ∷ []
repeater_field (Some p) = 2 ∷ 0 ∷ 4 ∷ p / 16777216 ∷ p / 65536 % 256 ∷ p / 256 % 256 ∷ p % 256 ∷ []

abbrev pub place_field : Place → List ℕ
place_field p = repeater_field p.repeater

-- tag 3, twelve bytes: from, to, letter, grade, metres, price
abbrev pub way_field : WayEntry → List ℕ
way_field w =
    3 ∷ 0 ∷ 12 ∷ w.from / 256 ∷ w.from % 256 ∷ w.to / 256 ∷ w.to % 256 ∷ w.letter ∷ w.grade
    ∷ w.metres / 256 ∷ w.metres % 256
    ∷ w.price / 16777216 ∷ w.price / 65536 % 256 ∷ w.price / 256 % 256 ∷ w.price % 256 ∷ []

-- a place can always be written, a way where its letter is a byte
abbrev pub HasField : Place → Type 0
HasField p = Unit {0}

abbrev pub HasByteLetter : WayEntry → Type 0
HasByteLetter w = w.letter < 256

-- tag 4, no body
abbrev pub end_field : List ℕ
end_field = 4 ∷ 0 ∷ 0 ∷ []

abbrev pub file_of : Contents → List ℕ
file_of c = head_field ++ (flat_map place_field c.places ++ (flat_map way_field c.ways ++ end_field))

-- a list of bytes
abbrev pub IsBytes : List ℕ → Type 0
IsBytes bs = (i : ℕ) → i < length bs → slice_index bs i < 256

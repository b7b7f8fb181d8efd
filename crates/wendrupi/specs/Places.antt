-- Which place a word of a command line or of a text of calls means. Stands on the names of places.
use Rattle.std.specs.Prelude.{ℕ, List, Option}
use Rattle.survey_text.specs.Names.{or_else, place_of, place_numbered}

-- the place of this name, or of this number; a number of no place is taken as it stands
abbrev pub place_of_word : List (List ℕ) → List ℕ → Option ℕ
place_of_word names word = or_else (place_of names word) (place_numbered 18446744073709551615 word)

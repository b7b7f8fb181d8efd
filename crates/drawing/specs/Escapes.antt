-- How a text is written in an XML document. Stands on nothing but the characters of a text.
use Rattle.std.specs.Prelude.{ℕ, Bool, true, false, List, [], ◌∷◌, flat_map, codes, chars, encode_utf8_all, ◌==◌, nat_le, ◌||◌, if◌then◌else◌}
use Rattle.std.specs.Str.{NoCharPasses}

-- XML 1.0 allows a tab (9), a line feed (10) and a carriage return (13), and all from the space (32) on but for two
abbrev pub is_allowed : ℕ → Bool
is_allowed c =
    if c == 9 || c == 10 || c == 13 then true else
    if c == 0xFFFE || c == 0xFFFF then false else nat_le 32 c

-- what is written for a character: an entity for & (38), < (60), > (62), " (34) and ' (39), and nothing for one that
-- is not allowed
abbrev pub chars_for : ℕ → List ℕ
chars_for c =
    if c == 38 then codes "&amp;" else
    if c == 60 then codes "&lt;" else
    if c == 62 then codes "&gt;" else
    if c == 34 then codes "&quot;" else
    if c == 39 then codes "&#39;" else
    if is_allowed c then c ∷ [] else []

-- what is written for each character of a text, one after the other
unfoldable pub escaped : List ℕ → List ℕ
escaped text = encode_utf8_all (flat_map chars_for (chars text))

-- the characters <, >, " and '
abbrev pub is_markup : ℕ → Bool
is_markup c = c == 60 || c == 62 || c == 34 || c == 39

-- no character of a text is markup
abbrev pub IsPlain : List ℕ → Type 0
IsPlain text = NoCharPasses is_markup text

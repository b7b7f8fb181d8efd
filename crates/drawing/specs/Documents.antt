-- What an SVG document has: its outermost tags, and the names of places. Stands on escaping.
use Rattle.std.specs.Prelude.{◌≡◌, ℕ, List, [], ◌∷◌, ◌++◌, String, string_bytes, codes, decimal, MatchOption}
use Rattle.std.specs.declared.alloc.Global.{Global}
use Rattle.std.specs.List.{slice_get}
use Rattle.drawing.specs.Escapes.{escaped}

-- a text begins with the tag `svg`, and with its end tag and a line feed (10) it ends
abbrev pub IsDocument : List ℕ → Type 0
IsDocument text = (body : List ℕ) × (text ≡ codes "<svg " ++ (body ++ (codes "</svg>" ++ 10 ∷ [])))

-- a text is the name of a place, escaped, or else its number
abbrev pub IsNameOf : List (String Global) → ℕ → List ℕ → Type 0
IsNameOf names place text =
    MatchOption (slice_get names place) (text ≡ decimal place) (λ name. text ≡ escaped (string_bytes name))

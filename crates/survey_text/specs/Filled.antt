-- The lines of a text that are not blank. As long as no field holds a line break, a row stands on each of them.
-- Stands on Lines.
use Rattle.std.specs.Prelude.{ℕ, zero, suc, cond, List, [], ◌∷◌}
use Rattle.survey_text.specs.Lines.{is_break, past_breaks, line_at}

-- behind what stands on the first line of a text
abbrev pub past_line : List ℕ → List ℕ
past_line [] = []
past_line (b ∷ bs) = cond (is_break b) (b ∷ bs) (past_line bs)

-- the text from the line with this number on, from 0, of those that are not blank
abbrev pub from_line : List ℕ → ℕ → List ℕ
from_line bs zero = past_breaks bs
from_line bs (suc k) = past_breaks (past_line (from_line bs k))

-- the number of that line among all, from 1
abbrev pub filled_line : List ℕ → ℕ → ℕ
filled_line bs k = line_at bs (from_line bs k)

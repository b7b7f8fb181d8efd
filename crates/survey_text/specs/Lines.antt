-- The lines of a text, and the line on which a row begins. A line ends at a line feed, at a carriage return, or at
-- both in this order. Stands on csv.
use Rattle.std.specs.Prelude.{ℕ, zero, suc, ◌+◌, ◌-◌, Bool, false, cond, not, ◌&&◌, ◌||◌, List, [], ◌∷◌, length}
use Rattle.std.specs.Prelude.{take, ◌==◌, Option, Some, None}
use Rattle.csv.specs.Machine.{Read, next_record}
use Rattle.csv.specs.Reading.{default_config}
use Rattle.csv.specs.declared.parser.State.{State}
use Rattle.csv.specs.declared.parser.State.TheVariants as st

abbrev pub is_break : ℕ → Bool
is_break b = (b == 13) || (b == 10)

abbrev pub begins_with_feed : List ℕ → Bool
begins_with_feed [] = false
begins_with_feed (b ∷ bs) = b == 10

-- how many lines end in these bytes: a carriage return with a line feed behind it ends none, but the line feed does
abbrev pub line_ends : List ℕ → ℕ
line_ends [] = 0
line_ends (b ∷ bs) = cond ((b == 10) || ((b == 13) && not (begins_with_feed bs))) 1 0 + line_ends bs

-- behind the line ends at the front of a text
abbrev pub past_breaks : List ℕ → List ℕ
past_breaks [] = []
past_breaks (b ∷ bs) = cond (is_break b) (past_breaks bs) (b ∷ bs)

-- what is left of a text behind so many of its records
abbrev pub left_behind : (State → List ℕ → List ℕ) → Option Read → List ℕ
left_behind more None = []
left_behind more (Some p) = more p.1 p.2

abbrev pub behind : ℕ → State → List ℕ → List ℕ
behind zero s bs = bs
behind (suc k) s bs = left_behind (behind k) (next_record default_config s [] [] bs)

-- the text from the first byte of the row with this number, from 0
abbrev pub from_row : List ℕ → ℕ → List ℕ
from_row bs k = past_breaks (behind k st.StartRecord bs)

-- the line, from 1, on which a part at the end of a text begins: one more than the line ends before it
abbrev pub line_at : List ℕ → List ℕ → ℕ
line_at bs part = line_ends (take (length bs - length part) bs) + 1

-- the line on which that row begins
abbrev pub row_line : List ℕ → ℕ → ℕ
row_line bs k = line_at bs (from_row bs k)

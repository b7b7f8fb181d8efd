-- The text of a line that is being written: it grows by pieces, while there is room for them in 128 bytes. Stands on
-- the struct of a line alone.
use Rattle.std.specs.Prelude.{ℕ, ◌+◌, cond, List, ◌++◌, length, nat_le}
use Rattle.sheet.specs.declared.text.TextLine.{TextLine}

abbrev pub text_of : TextLine → List ℕ
text_of l = l.text.items

-- a text and a piece behind it, or the text alone where the piece does not fit
abbrev pub text_and : List ℕ → List ℕ → List ℕ
text_and text piece = cond (nat_le (length text + length piece) 128) (text ++ piece) text

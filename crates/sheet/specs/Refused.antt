-- The text of a refusal line. Stands on the numbers of the refusals.
use Rattle.std.specs.Prelude.{ℕ, List, [], ◌∷◌, ◌++◌, codes, decimal}
use Rattle.subject.specs.Refusals.{number}
use Rattle.sheet.specs.declared.refused.Refused.{Refused}
use Rattle.sheet.specs.declared.refused.Refused.TheVariants.{Call, File}

-- a number in decimal, and a byte behind it
abbrev pub number_then : ℕ → ℕ → List ℕ
number_then n behind = decimal n ++ behind ∷ []

-- the number and, for a file, the byte place; byte 32 is a space, and byte 10 ends the line
abbrev pub refusal_figures : Refused → List ℕ
refusal_figures (Call r) = number_then (number r) 10
refusal_figures (File f) = number_then (number f.refusal) 32 ++ number_then f.place 10

-- REFUSED and the figures
abbrev pub refusal_text : Refused → List ℕ
refusal_text r = codes "REFUSED " ++ refusal_figures r

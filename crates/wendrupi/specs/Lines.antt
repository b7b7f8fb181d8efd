-- The lines of a text of steps or of calls. Stands on nothing.
use Rattle.std.specs.Prelude.{ℕ, Bool, true, List, [], ◌∷◌, ◌==◌}

-- a line is blank, or a remark, which begins with # (35)
abbrev pub says_nothing : List ℕ → Bool
says_nothing [] = true
says_nothing (b ∷ line) = b == 35

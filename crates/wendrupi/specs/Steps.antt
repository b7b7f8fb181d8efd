-- The text of a step: the number of its way, a space, and R where a repeater is set or - where none is. Stands on
-- steps.
use Rattle.std.specs.Prelude.{◌≢◌, ℕ, ◌^◌, ◌<◌, Bool, true, false, List, ◌++◌, decimal, codes}
use Rattle.subject.specs.declared.run.Step.{Step}

abbrev pub mark_text : Bool → List ℕ
mark_text true = codes "R"
mark_text false = codes "-"

abbrev pub step_text : Step → List ℕ
step_text s = decimal s.way ++ (codes " " ++ mark_text s.mark)

-- the text is that of no step
abbrev pub IsNoStep : List ℕ → Type 0
IsNoStep text = (s : Step) → s.way < 2 ^ 64 → text ≢ step_text s

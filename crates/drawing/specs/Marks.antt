-- What a picture marks of a run. Stands on the ways of a survey.
use Rattle.std.specs.Prelude.{ℕ, Bool, false, List, Some, None, Option, ◌==◌, ◌&&◌}
use Rattle.std.specs.List.{slice_get, list_any}
use Rattle.subject.specs.declared.run.Step.{Step}
use Rattle.survey.specs.declared.entry.WayEntry.{WayEntry}

-- a step leads over the way
abbrev pub has_way : List Step → ℕ → Bool
has_way steps way = list_any (λ s. s.way == way) steps

-- a way leads to the place; none does not
abbrev pub ends_at : Option WayEntry → ℕ → Bool
ends_at None place = false
ends_at (Some way) place = way.to == place

-- the way of that number leads to the place
abbrev pub leads_to : List WayEntry → ℕ → ℕ → Bool
leads_to ways number place = ends_at (slice_get ways number) place

-- a step leads to the place
abbrev pub arrives : List WayEntry → List Step → ℕ → Bool
arrives ways steps place = list_any (λ s. leads_to ways s.way place) steps

-- a step leads to the place that marks a repeater there
abbrev pub marks : List WayEntry → List Step → ℕ → Bool
marks ways steps place = list_any (λ s. s.mark && leads_to ways s.way place) steps

-- The names so far and those that are left are all names.
use Rattle.std.proofs.Common.{◌≡◌, ◌++◌, ◌-◌, map, string_bytes}
use Rattle.survey_text.specs.Names.{number_names}
use Rattle.survey_text.proofs.names.number_names.Given as goal

abbrev pub invariant-loop-number : goal.invariant-loop-number
invariant-loop-number l =
    map string_bytes l.names.items ++ number_names l.number-counter (l.places - l.number-counter) ≡ number_names 0 l.places

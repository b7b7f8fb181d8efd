-- The names that are left are names behind those that were passed.
use Rattle.std.proofs.Common.{◌≡◌, [], drop, take, map, string_bytes}
use Rattle.survey_text.specs.Names.{are_names}
use Rattle.survey_text.proofs.names.are_names.Given as goal

abbrev pub invariant-loop-number : goal.invariant-loop-number
invariant-loop-number l =
    are_names (map string_bytes (take l.number l.names)) (drop l.number (map string_bytes l.names)) ≡ are_names [] (map string_bytes l.names)

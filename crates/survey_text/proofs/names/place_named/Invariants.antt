-- The place with this name is among those that are left.
use Rattle.std.proofs.Common.{◌≡◌, map, drop, string_bytes}
use Rattle.survey_text.specs.Names.{place_named}
use Rattle.survey_text.proofs.names.place_named.Given as goal

abbrev pub invariant-loop-number : goal.invariant-loop-number
invariant-loop-number l = place_named l.number (drop l.number (map string_bytes l.names)) l.word ≡ place_named 0 (map string_bytes l.names) l.word

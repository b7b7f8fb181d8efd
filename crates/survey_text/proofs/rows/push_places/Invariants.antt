-- The rows so far and those of the places that are left are all rows.
use Rattle.std.proofs.Common.{◌≡◌, ◌++◌, drop, map, string_bytes}
use Rattle.csv.specs.Records.{fields_of}
use Rattle.survey_text.specs.Written.{place_rows}
use Rattle.survey_text.proofs.rows.push_places.Given as goal

abbrev pub invariant-loop-number : goal.invariant-loop-number
invariant-loop-number l =
    map fields_of l.rows.items ++ place_rows (map string_bytes l.names) l.number (drop l.number l.places)
    ≡ map fields_of l.fn.rows.items ++ place_rows (map string_bytes l.names) 0 l.places

-- The rows of the ways that were passed stand behind the other rows.
use Rattle.std.proofs.Common.{◌≡◌, ◌++◌, take, map, string_bytes}
use Rattle.csv.specs.Records.{fields_of}
use Rattle.survey_text.specs.Written.{way_fields}
use Rattle.survey_text.proofs.rows.push_ways.Given as goal

abbrev pub invariant-loop-way : goal.invariant-loop-way
invariant-loop-way l =
    map fields_of l.rows.items ≡ map fields_of l.fn.rows.items ++ map (way_fields (map string_bytes l.names)) (take l.way-index l.ways)

-- The walk over the rows that are left, from what was read so far, is the walk over all; no row
-- so far holds a line break.
use Rattle.std.proofs.Common.{◌≡◌, drop, take, map}
use Rattle.csv.specs.Records.{fields_of}
use Rattle.survey_text.specs.Texts.{walk, progress, nothing_read}
use Rattle.survey_text.proofs.LineBack.{AllPlain}
use Rattle.survey_text.proofs.read.read_rows.Given as goal

abbrev pub invariant-loop-number : goal.invariant-loop-number
invariant-loop-number l =
    (walk l.text l.number (progress l.reading) (drop l.number (map fields_of l.rows)) ≡ walk l.text 0 nothing_read (map fields_of l.rows))
    × AllPlain (map fields_of (take l.number l.rows))

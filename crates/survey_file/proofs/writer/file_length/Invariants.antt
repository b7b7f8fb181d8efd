-- The bytes of the head, the end and the places so far are counted, and no place has more than one with a price.
use Rattle.std.proofs.Common.{◌≡◌, ◌+◌, ◌*◌, ◌≤◌, length, take}
use Rattle.std.specs.List.{flat_map}
use Rattle.survey_file.specs.declared.writer.TheConstants.{HEAD_LENGTH, PRICE_LENGTH, END_LENGTH}
use Rattle.survey_file.specs.Encode.{place_field}
use Rattle.survey_file.proofs.writer.file_length.Given as goal

abbrev pub invariant-loop-place : goal.invariant-loop-place
invariant-loop-place l =
    (l.length ≡ HEAD_LENGTH + END_LENGTH + length (flat_map place_field (take l.place-index l.place-items)))
    × (l.length ≤ HEAD_LENGTH + END_LENGTH + PRICE_LENGTH * l.place-index)

-- The fields of a survey file by their tags: what a body says, and where the next field begins. Stands on Fields.
use Rattle.std.specs.Prelude.{ℕ, ◌+◌, cond, List, length, Some, None, Ok, Result, ◌==◌, nat_lt, slice_index}
use Rattle.subject.specs.declared.refusal.Refusal.TheVariants.{WrongEdition, BytesBehind}
use Rattle.subject.specs.declared.refusal.Fault.{Fault}
use Rattle.survey.specs.declared.entry.Place.{Place}
use Rattle.survey.specs.declared.entry.WayEntry.{WayEntry}
use Rattle.survey.specs.Edits.{of_repeater}
use Rattle.survey.specs.Checks.{then}
use Rattle.survey_file.specs.declared.field.Head.{Head}
use Rattle.survey_file.specs.declared.record.Record.{Record}
use Rattle.survey_file.specs.Fields.{fault, two_at, four_at, body_at}

-- two bytes: the edition, which is 1
abbrev pub edition_at : List ℕ → ℕ → Head → Result ℕ Fault
edition_at bs at h =
    then (body_at bs at h 2) (λ next. cond (two_at bs (at + 3) == 1) (Ok next) (fault WrongEdition at))

-- no body is a blank; four bytes are the price of a repeater
abbrev pub place_at : List ℕ → ℕ → Head → Result (Record Place) Fault
place_at bs at h =
    cond (h.length == 0) (Ok (record { entry = of_repeater None; next = at + 3 }))
    (then (body_at bs at h 4) (λ next. Ok (record { entry = of_repeater (Some (four_at bs (at + 3))); next = next })))

-- twelve bytes: from (2), to (2), letter (1), grade (1), metres (2), price (4)
abbrev pub way_in : List ℕ → ℕ → WayEntry
way_in bs i = record {
  from = two_at bs i;
  to = two_at bs (i + 2);
  letter = slice_index bs (i + 4);
  grade = slice_index bs (i + 5);
  metres = two_at bs (i + 6);
  price = four_at bs (i + 8);
}

abbrev pub way_at : List ℕ → ℕ → Head → Result (Record WayEntry) Fault
way_at bs at h =
    then (body_at bs at h 12) (λ next. Ok (record { entry = way_in bs (at + 3); next = next }))

-- no body, and no byte behind; the place of that fault counts the bytes before the first extra one
abbrev pub end_at : List ℕ → ℕ → Head → Result ℕ Fault
end_at bs at h =
    then (body_at bs at h 0) (λ next. cond (nat_lt next (length bs)) (fault BytesBehind next) (Ok next))

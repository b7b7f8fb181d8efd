-- What a survey file says: the contents that it reads as, or the fault that it is refused with. Stands on Records and
-- on the edits of a draft.
use Rattle.std.specs.Prelude.{ℕ, zero, suc, Bool, true, false, cond, List, length, Ok, Err, Result, ◌==◌}
use Rattle.subject.specs.declared.refusal.Refusal.{Refusal}
use Rattle.subject.specs.declared.refusal.Refusal.TheVariants.{CutShort, WrongTag}
use Rattle.subject.specs.declared.refusal.Fault.{Fault}
use Rattle.survey.specs.Checks.{then}
use Rattle.survey.specs.Contents.{Contents, no_contents}
use Rattle.survey.specs.Edits.{add_place, add_way}
use Rattle.survey_file.specs.declared.field.Head.{Head}
use Rattle.survey_file.specs.declared.reader.Phase.{Phase}
use Rattle.survey_file.specs.declared.reader.Phase.TheVariants as phase
use Rattle.survey_file.specs.declared.reader.State.{State}
use Rattle.survey_file.specs.declared.record.Record.{Record}
use Rattle.survey_file.specs.Fields.{fault, with_place, head_at}
use Rattle.survey_file.specs.Records.{edition_at, place_at, way_at, end_at}

-- what one field brings: where the reader is then, and what the draft contains
pub record Turn : Type 0 where
  pub state : State
  pub draft : Contents

abbrev pub to : Phase → ℕ → Contents → Turn
to p at c = record { state = record { phase = p; at = at }; draft = c }

-- a field that enters nothing is read, and the reader moves on
abbrev pub enter_edition : List ℕ → ℕ → Head → Contents → Result Turn Fault
enter_edition bs at h c = then (edition_at bs at h) (λ next. Ok (to phase.Places next c))

abbrev pub enter_end : List ℕ → ℕ → Head → Contents → Result Turn Fault
enter_end bs at h c = then (end_at bs at h) (λ next. Ok (to phase.Ended next c))

-- an entry is read and put into the draft, and the reader moves on: it has come to p
abbrev pub enter : {E : Type 0} → (List ℕ → ℕ → Head → Result (Record E) Fault)
    → (Contents → E → Result Contents Refusal) → Phase → List ℕ → ℕ → Head → Contents → Result Turn Fault
enter read add p bs at h c =
    then (read bs at h) (λ r. then (with_place (add c r.entry) at) (λ d. Ok (to p r.next d)))

abbrev pub enter_place : List ℕ → ℕ → Head → Contents → Result Turn Fault
enter_place = enter place_at (λ c p. add_place c p.repeater) phase.Places

abbrev pub enter_way : List ℕ → ℕ → Head → Contents → Result Turn Fault
enter_way = enter way_at add_way phase.Ways

-- what is accepted next depends on the phase and the tag together: the head first, then places, then ways, then the end
abbrev pub move_of : Phase → List ℕ → ℕ → Head → Contents → Result Turn Fault
move_of phase.Head bs at h c = cond (h.tag == 1) (enter_edition bs at h c) (fault WrongTag at)
move_of phase.Places bs at h c =
    cond (h.tag == 2) (enter_place bs at h c)
    (cond (h.tag == 3) (enter_way bs at h c)
    (cond (h.tag == 4) (enter_end bs at h c) (fault WrongTag at)))
move_of phase.Ways bs at h c =
    cond (h.tag == 3) (enter_way bs at h c)
    (cond (h.tag == 4) (enter_end bs at h c) (fault WrongTag at))
move_of phase.Ended bs at h c = fault WrongTag at

-- one field
abbrev pub turn_of : List ℕ → State → Contents → Result Turn Fault
turn_of bs s c = then (head_at bs s.at) (λ h. move_of s.phase bs s.at h c)

-- whether all was read
abbrev pub is_ended : Phase → Bool
is_ended phase.Head = false
is_ended phase.Places = false
is_ended phase.Ways = false
is_ended phase.Ended = true

-- at most n fields; a field has three bytes at least, so as many fields as bytes suffice
unfoldable pub walk : ℕ → List ℕ → State → Contents → Result Contents Fault
walk zero bs s c = fault CutShort s.at
walk (suc n) bs s c =
    cond (is_ended s.phase) (Ok c) (then (turn_of bs s c) (λ t. walk n bs t.state t.draft))

abbrev pub start : State
start = record { phase = phase.Head; at = 0 }

-- what a whole file says
abbrev pub decode : List ℕ → Result Contents Fault
decode bs = walk (suc (length bs)) bs start no_contents

-- the state behind a field that enters nothing
abbrev pub state_behind : Phase → Result ℕ Fault → Result State Fault
state_behind p (Ok next) = Ok (record { phase = p; at = next })
state_behind p (Err e) = Err e

-- the state after a field, or the fault that it is refused with
abbrev pub state_of : Result Turn Fault → Result State Fault
state_of (Ok t) = Ok t.state
state_of (Err e) = Err e

-- what the draft contains after a field: a refused one leaves it
abbrev pub contents_of : Contents → Result Turn Fault → Contents
contents_of c (Ok t) = t.draft
contents_of c (Err e) = c

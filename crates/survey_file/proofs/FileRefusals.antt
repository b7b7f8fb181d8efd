-- Every fault that a file has is one of a file. By the parts of the decoder: each refuses with such a number, or with what a
-- part of it refuses.
use Rattle.std.proofs.Common.{◌≡◌, ℕ, ◌+◌, ◌-◌, zero, suc, Bool, true, false, cond, List, length, ◌==◌, Some, None, Ok, Err, Option, Result, IfErr, nat_le, nat_lt, subst, lit≤}
use Rattle.subject.specs.declared.refusal.Refusal.{Refusal}
use Rattle.subject.specs.declared.refusal.Fault.{Fault}
use Rattle.survey.specs.declared.entry.WayEntry.{WayEntry}
use Rattle.survey.specs.Card.{row_of, entry_of, loss_of}
use Rattle.survey.specs.Checks.{then, place_check, price_check, ends_check, way_check}
use Rattle.survey.specs.Contents.{Contents, no_contents}
use Rattle.survey.specs.Edits.{answer_of, add_place, add_way}
use Rattle.survey_file.specs.declared.field.Head.{Head}
use Rattle.survey_file.specs.declared.reader.Phase.{Phase}
use Rattle.survey_file.specs.declared.reader.Phase.TheVariants as phase
use Rattle.survey_file.specs.declared.reader.State.{State}
use Rattle.survey_file.specs.declared.record.Record.{Record}
use Rattle.survey_file.specs.Fields.{IsFileRefusal, with_place, two_at, head_at, body_at}
use Rattle.survey_file.specs.Records.{edition_at, place_at, way_at, end_at}
use Rattle.survey_file.proofs.Answering.{never}
use Rattle.survey_file.specs.Decode.{enter, enter_edition, enter_place, enter_way, enter_end, move_of, turn_of, is_ended, walk, start, decode}

module _ {X E : Type 0} (P : E → Type 0) where
  cond-IfErr : (b : Bool) (r s : Result X E) → IfErr r P → IfErr s P → IfErr (cond b r s) P
  cond-IfErr true r s h k = h
  cond-IfErr false r s h k = k

then-IfErr : {X Y E : Type 0} (P : E → Type 0) (r : Result X E) (f : X → Result Y E) → IfErr r P → ((x : X) → IfErr (f x) P) → IfErr (then r f) P
then-IfErr P (Ok x) f h k = k x
then-IfErr P (Err e) f h k = h

-- what the checks of a draft refuse with
abbrev OfFile : {X : Type 0} → Result X Refusal → Type 0
OfFile r = IfErr r IsFileRefusal

price_check-of_file : (price : ℕ) → OfFile (price_check price)
price_check-of_file price = cond-IfErr IsFileRefusal (nat_le price _) _ _ tt (lit≤ tt)

place_check-of_file : (price : Option ℕ) → OfFile (place_check price)
place_check-of_file None = tt
place_check-of_file (Some price) = price_check-of_file price

ends_check-of_file : (n : ℕ) (w : WayEntry) → OfFile (ends_check n w)
ends_check-of_file n w =
    cond-IfErr IsFileRefusal (nat_lt w.from n) _ _
    (cond-IfErr IsFileRefusal (nat_lt w.to n) _ _ (cond-IfErr IsFileRefusal (w.from == w.to) _ _ (lit≤ tt) tt) (lit≤ tt))
    (lit≤ tt)

row_of-of_file : (letter : ℕ) → OfFile (row_of letter)
row_of-of_file letter =
    cond-IfErr IsFileRefusal (letter == 85) _ _ tt
    (cond-IfErr IsFileRefusal (letter == 83) _ _ tt (cond-IfErr IsFileRefusal (letter == 70) _ _ tt (lit≤ tt)))

entry_of-of_file : (r : Result ℕ Refusal) (metres : ℕ) → OfFile r → OfFile (entry_of r metres)
entry_of-of_file (Ok row) metres h = cond-IfErr IsFileRefusal (nat_le metres _) _ _ tt (lit≤ tt)
entry_of-of_file (Err e) metres h = h

way_check-of_file : (n : ℕ) (w : WayEntry) → OfFile (way_check n w)
way_check-of_file n w =
    then-IfErr IsFileRefusal (ends_check n w) _ (ends_check-of_file n w)
    (λ _. then-IfErr IsFileRefusal (loss_of w.letter w.metres) _ (entry_of-of_file (row_of w.letter) w.metres (row_of-of_file w.letter))
    (λ _. price_check-of_file w.price))

add_place-of_file : (c : Contents) (price : Option ℕ) → OfFile (add_place c price)
add_place-of_file c price =
    cond-IfErr IsFileRefusal (nat_lt (length c.places) _) _ _
    (then-IfErr IsFileRefusal (place_check price) _ (place_check-of_file price) (λ _. tt))
    (lit≤ tt)

add_way-of_file : (c : Contents) (w : WayEntry) → OfFile (add_way c w)
add_way-of_file c w =
    cond-IfErr IsFileRefusal (nat_lt (length c.ways) _) _ _
    (then-IfErr IsFileRefusal (way_check (length c.places) w) _ (way_check-of_file (length c.places) w) (λ _. tt))
    (lit≤ tt)

-- what the parts of the decoder refuse with
abbrev IsOfFile : Fault → Type 0
IsOfFile f = IsFileRefusal f.refusal

abbrev Faults : {X : Type 0} → Result X Fault → Type 0
Faults r = IfErr r IsOfFile

with_place-faults : {X : Type 0} (r : Result X Refusal) (at : ℕ) → OfFile r → Faults (with_place r at)
with_place-faults (Ok x) at h = tt
with_place-faults (Err e) at h = h

module _ (bs : List ℕ) (at : ℕ) where
  head_at-faults : Faults (head_at bs at)
  head_at-faults = cond-IfErr IsOfFile (nat_lt (length bs - at) 3) _ _ (lit≤ tt) tt

  module _ (h : Head) where
    body_at-faults : (wanted : ℕ) → Faults (body_at bs at h wanted)
    body_at-faults wanted =
        cond-IfErr IsOfFile (h.length == wanted) _ _ (cond-IfErr IsOfFile (nat_lt (length bs - at - 3) wanted) _ _ (lit≤ tt) tt) (lit≤ tt)

    edition_at-faults : Faults (edition_at bs at h)
    edition_at-faults =
        then-IfErr IsOfFile (body_at bs at h 2) _ (body_at-faults 2) (λ next. cond-IfErr IsOfFile (two_at bs (at + 3) == 1) _ _ tt (lit≤ tt))

    place_at-faults : Faults (place_at bs at h)
    place_at-faults =
        cond-IfErr IsOfFile (h.length == 0) _ _ tt (then-IfErr IsOfFile (body_at bs at h 4) _ (body_at-faults 4) (λ next. tt))

    way_at-faults : Faults (way_at bs at h)
    way_at-faults = then-IfErr IsOfFile (body_at bs at h 12) _ (body_at-faults 12) (λ next. tt)

    end_at-faults : Faults (end_at bs at h)
    end_at-faults =
        then-IfErr IsOfFile (body_at bs at h 0) _ (body_at-faults 0)
        (λ next. cond-IfErr IsOfFile (nat_lt next (length bs)) _ _ (lit≤ tt) tt)

    module _ (c : Contents) where
      enter-faults : {E : Type 0} (read : List ℕ → ℕ → Head → Result (Record E) Fault) (add : Contents → E → Result Contents Refusal)
          (p : Phase) → Faults (read bs at h) → ((e : E) → OfFile (add c e)) → Faults (enter read add p bs at h c)
      enter-faults read add p f g =
          then-IfErr IsOfFile (read bs at h) _ f
          (λ r. then-IfErr IsOfFile (with_place (add c r.entry) at) _ (with_place-faults (add c r.entry) at (g r.entry)) (λ d. tt))

      enter_edition-faults : Faults (enter_edition bs at h c)
      enter_edition-faults = then-IfErr IsOfFile (edition_at bs at h) _ edition_at-faults (λ next. tt)

      enter_end-faults : Faults (enter_end bs at h c)
      enter_end-faults = then-IfErr IsOfFile (end_at bs at h) _ end_at-faults (λ next. tt)

      enter_place-faults : Faults (enter_place bs at h c)
      enter_place-faults =
          enter-faults place_at (λ d p. add_place d p.repeater) phase.Places place_at-faults (λ e. add_place-of_file c e.repeater)

      enter_way-faults : Faults (enter_way bs at h c)
      enter_way-faults = enter-faults way_at add_way phase.Ways way_at-faults (λ e. add_way-of_file c e)

      move_of-faults : (p : Phase) → Faults (move_of p bs at h c)
      move_of-faults phase.Head = cond-IfErr IsOfFile (h.tag == 1) _ _ enter_edition-faults (lit≤ tt)
      move_of-faults phase.Places =
          cond-IfErr IsOfFile (h.tag == 2) _ _ enter_place-faults
          (cond-IfErr IsOfFile (h.tag == 3) _ _ enter_way-faults (cond-IfErr IsOfFile (h.tag == 4) _ _ enter_end-faults (lit≤ tt)))
      move_of-faults phase.Ways =
          cond-IfErr IsOfFile (h.tag == 3) _ _ enter_way-faults (cond-IfErr IsOfFile (h.tag == 4) _ _ enter_end-faults (lit≤ tt))
      move_of-faults phase.Ended = lit≤ tt

turn_of-faults : (bs : List ℕ) (s : State) (c : Contents) → Faults (turn_of bs s c)
turn_of-faults bs s c = then-IfErr IsOfFile (head_at bs s.at) _ (head_at-faults bs s.at) (λ h. move_of-faults bs s.at h c s.phase)

walk-faults : (n : ℕ) (bs : List ℕ) (s : State) (c : Contents) → Faults (walk n bs s c)
unfolding walk
walk-faults zero bs s c = lit≤ tt
walk-faults (suc n) bs s c =
    cond-IfErr IsOfFile (is_ended s.phase) _ _ tt
    (then-IfErr IsOfFile (turn_of bs s c) _ (turn_of-faults bs s c) (λ t. walk-faults n bs t.state t.draft))

pub file_refusals : (bs : List ℕ) → IfErr (decode bs) (λ f. IsFileRefusal f.refusal)
file_refusals bs = walk-faults (suc (length bs)) bs start no_contents

-- so is the fault that is answered
pub fault_of_file : (bs : List ℕ) (f : Fault) → ◌≡◌ {A = Result (Unit {0}) Fault} (Err f) (answer_of tt (decode bs)) → IsFileRefusal f.refusal
fault_of_file bs f e = answered (decode bs) (file_refusals bs) e
  where
    answered : (r : Result Contents Fault) → Faults r → ◌≡◌ {A = Result (Unit {0}) Fault} (Err f) (answer_of tt r) → IsFileRefusal f.refusal
    answered (Ok d) h e = absurd (never f tt e)
    answered (Err g) h e = let same : g ≡ f = cc in subst IsOfFile same h

-- What the calls on a draft do to its contents, or how they refuse. Stands on Checks and Contents.
use Rattle.std.specs.Prelude.{ℕ, cond, [], ◌∷◌, ◌++◌, length, Some, None, Ok, Err, Option, Result, nat_lt, slice_set}
use Rattle.std.specs.List.{slice_get}
use Rattle.subject.specs.declared.refusal.Refusal.{Refusal}
use Rattle.subject.specs.declared.refusal.Refusal.TheVariants.{DraftFull, NoSuchWay}
use Rattle.survey.specs.declared.draft.TheConstants.{MOST_DRAFT_PLACES, MOST_DRAFT_WAYS}
use Rattle.survey.specs.declared.entry.Place.{Place}
use Rattle.survey.specs.declared.entry.WayEntry.{WayEntry}
use Rattle.survey.specs.Checks.{then, price_check, place_check, way_check}
use Rattle.survey.specs.Contents.{Contents}

-- what a call answers: x where the edit is accepted, else its refusal
abbrev pub answer_of : {X Y E : Type 0} → X → Result Y E → Result X E
answer_of x (Ok y) = Ok x
answer_of x (Err e) = Err e

-- what a call leaves: the new contents where the edit is accepted, else the old ones
abbrev pub contents_after : {E : Type 0} → Contents → Result Contents E → Contents
contents_after c (Ok d) = d
contents_after c (Err e) = c

abbrev pub of_repeater : Option ℕ → Place
of_repeater r = record { repeater = r }

-- one place more, while there is room
abbrev pub add_place : Contents → Option ℕ → Result Contents Refusal
add_place c r =
    cond (nat_lt (length c.places) MOST_DRAFT_PLACES)
    (then (place_check r) (λ _. Ok (record { places = c.places ++ of_repeater r ∷ []; ways = c.ways })))
    (Err DraftFull)

-- one way more, while there is room
abbrev pub add_way : Contents → WayEntry → Result Contents Refusal
add_way c w =
    cond (nat_lt (length c.ways) MOST_DRAFT_WAYS)
    (then (way_check (length c.places) w) (λ _. Ok (record { places = c.places; ways = c.ways ++ w ∷ [] })))
    (Err DraftFull)

-- a way at another price
abbrev pub with_price : WayEntry → ℕ → WayEntry
with_price w p = record w { price = p }

abbrev pub reprice_way : Contents → ℕ → ℕ → Option WayEntry → Result Contents Refusal
reprice_way c i p None = Err NoSuchWay
reprice_way c i p (Some w) =
    then (price_check p) (λ _. Ok (record { places = c.places; ways = slice_set c.ways i (with_price w p) }))

-- one way at another price, and all else as it was
abbrev pub reprice : Contents → ℕ → ℕ → Result Contents Refusal
reprice c i p = reprice_way c i p (slice_get c.ways i)

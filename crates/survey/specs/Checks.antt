-- What is checked of an entry of a survey, in which order, and with which refusal. Stands on the loss card.
use Rattle.std.specs.Prelude.{ℕ, Bool, true, false, cond, List, [], ◌∷◌, is_ok, Some, None, Ok, Err, Option, Result, ◌==◌, nat_le, nat_lt}
use Rattle.subject.specs.declared.refusal.Refusal.{Refusal}
use Rattle.subject.specs.declared.refusal.Refusal.TheVariants.{WrongEnds, TooDear}
use Rattle.survey.specs.Card.{loss_of}
use Rattle.survey.specs.declared.entry.TheConstants.{MOST_CENTS}
use Rattle.survey.specs.declared.entry.Place.{Place}
use Rattle.survey.specs.declared.entry.WayEntry.{WayEntry}

-- what an accepted check passes on to; a refusal goes on as it is
abbrev pub then : {X Y E : Type 0} → Result X E → (X → Result Y E) → Result Y E
then (Ok x) f = f x
then (Err e) f = Err e

-- a price is at most so many cents
abbrev pub price_check : ℕ → Result (Unit {0}) Refusal
price_check price = cond (nat_le price MOST_CENTS) (Ok tt) (Err TooDear)

-- a blank is no price, and passes
abbrev pub place_check : Option ℕ → Result (Unit {0}) Refusal
place_check None = Ok tt
place_check (Some price) = price_check price

-- the ends are two of the n places that are entered, and not the same
abbrev pub ends_check : ℕ → WayEntry → Result (Unit {0}) Refusal
ends_check n w =
    cond (nat_lt w.from n)
    (cond (nat_lt w.to n) (cond (w.from == w.to) (Err WrongEnds) (Ok tt)) (Err WrongEnds))
    (Err WrongEnds)

-- the ends, the letter, the metres, the price, in this order
abbrev pub way_check : ℕ → WayEntry → Result (Unit {0}) Refusal
way_check n w = then (ends_check n w) (λ _. then (loss_of w.letter w.metres) (λ _. price_check w.price))

-- every place of a list passes
abbrev pub good_places : List Place → Bool
good_places [] = true
good_places (p ∷ ps) = cond (is_ok (place_check p.repeater)) (good_places ps) false

-- a way passes, and its grade is a byte
abbrev pub good_way : ℕ → WayEntry → Bool
good_way n w = cond (is_ok (way_check n w)) (nat_lt w.grade 256) false

-- every way of a list does
abbrev pub good_ways : ℕ → List WayEntry → Bool
good_ways n [] = true
good_ways n (w ∷ ws) = cond (good_way n w) (good_ways n ws) false

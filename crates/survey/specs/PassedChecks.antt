-- What is known of a way that has passed the checks of the draft: its ends are places, the card knows its cable, its
-- letter is a byte, and its loss is one that a site allows. By cases on the checks. Stands on Checks. It is no proof
-- file, since the bounds of a sealed survey, which a ghost member cites, rest on it.
use Rattle.std.proofs.Common.{◌≡◌, ℕ, zero, suc, ◌*◌, ◌<◌, ◌≤◌, Bool, true, false, cond, eqb, ltb, leb, List, [], ◌∷◌, is_ok, Some, Ok, Err, Result, sym, refl, ap, ◌∙◌, mul-le-mul, arith}
use Rattle.std.specs.List.{slice_get}
use Rattle.std.proofs.lemmas.Bool.{eqb-true, ltb-true, leb-true}
use Rattle.subject.specs.declared.refusal.Refusal.{Refusal}
use Rattle.subject.specs.declared.refusal.Refusal.TheVariants.{WrongEnds, WrongLetter, TooLong}
use Rattle.survey.specs.declared.card.TheConstants.{MOST_METRES, U_LOSS, S_LOSS, F_LOSS}
use Rattle.survey.specs.declared.entry.WayEntry.{WayEntry}
use Rattle.survey.specs.Card.{row_of, loss_per_100_metres, hundredth, loss_of, entry_of}
use Rattle.survey.specs.Checks.{then, price_check, ends_check, way_check, good_way, good_ways}

-- a test of two parts passes only if both do
pub cond_first : (a b : Bool) → cond a b false ≡ true → a ≡ true
cond_first true b h = refl
cond_first false b h = h

pub cond_second : (a b : Bool) → cond a b false ≡ true → b ≡ true
cond_second true b h = h
cond_second false b h = let z : false ≡ true = h in cc

-- each of the ways of a list that is good is good
pub way_good : (n : ℕ) (ws : List WayEntry) (i : ℕ) (w : WayEntry) → good_ways n ws ≡ true → slice_get ws i ≡ Some w
    → good_way n w ≡ true
way_good n [] i w h e = let z : ◌≡◌ {A = ℕ} 0 1 = cc in absurd (omega arith)
way_good n (v ∷ ws) zero w h e =
    let same : v ≡ w = cc in
    ap (good_way n) (sym same) ∙ cond_first (good_way n v) (good_ways n ws) h
way_good n (v ∷ ws) (suc i) w h e = way_good n ws i w (cond_second (good_way n v) (good_ways n ws) h) e

pub way_passed : (n : ℕ) (w : WayEntry) → good_way n w ≡ true → is_ok (way_check n w) ≡ true
way_passed n w h = cond_first (is_ok (way_check n w)) (ltb w.grade 256) h

-- a check of two parts that passes has passed the first part, and the second
pub then_passed : {X Y E : Type 0} (r : Result X E) (f : X → Result Y E) → is_ok (then r f) ≡ true
    → (x : X) × (r ≡ Ok x) × (is_ok (f x) ≡ true)
then_passed (Ok x) f h = (x, refl, h)
then_passed (Err e) f h = let z : ◌≡◌ {A = ℕ} 0 1 = cc in absurd (omega arith)

-- the card knows the cable of a way that has passed
pub way_loss : (n : ℕ) (w : WayEntry) → is_ok (way_check n w) ≡ true → (l : ℕ) × (loss_of w.letter w.metres ≡ Ok l)
way_loss n w h =
    let ends = then_passed (ends_check n w) (λ _. then (loss_of w.letter w.metres) (λ _. price_check w.price)) h in
    let cable = then_passed (loss_of w.letter w.metres) (λ _. price_check w.price) ends.2 in
    (cable.0, cable.1)

letter_by : (b c d : Bool) (letter metres l : ℕ) → eqb letter 85 ≡ b → eqb letter 83 ≡ c → eqb letter 70 ≡ d
    → entry_of (cond b (Ok 0) (cond c (Ok 1) (cond d (Ok 2) (Err WrongLetter)))) metres ≡ Ok l → letter < 256
letter_by true c d letter metres l u s f h = omega (arith, eqb-true letter 85 u)
letter_by false true d letter metres l u s f h = omega (arith, eqb-true letter 83 s)
letter_by false false true letter metres l u s f h = omega (arith, eqb-true letter 70 f)
letter_by false false false letter metres l u s f h = let z : ◌≡◌ {A = ℕ} 0 1 = cc in absurd (omega arith)

-- its letter is a byte
pub letter_small : (letter metres l : ℕ) → loss_of letter metres ≡ Ok l → letter < 256
letter_small letter metres l h =
    letter_by (eqb letter 85) (eqb letter 83) (eqb letter 70) letter metres l refl refl refl h

ends_by : (b c d : Bool) (n : ℕ) (w : WayEntry) (u : Unit {0}) → ltb w.from n ≡ b → ltb w.to n ≡ c
    → eqb w.from w.to ≡ d → cond b (cond c (cond d (Err WrongEnds) (Ok tt)) (Err WrongEnds)) (Err WrongEnds) ≡ Ok u
    → (w.from < n) × (w.to < n)
ends_by true true d n w u from to same h = (ltb-true w.from n from, ltb-true w.to n to)
ends_by true false d n w u from to same h = let z : ◌≡◌ {A = ℕ} 0 1 = cc in absurd (omega arith)
ends_by false c d n w u from to same h = let z : ◌≡◌ {A = ℕ} 0 1 = cc in absurd (omega arith)

-- its ends are places
pub way_ends : (n : ℕ) (w : WayEntry) → is_ok (way_check n w) ≡ true → (w.from < n) × (w.to < n)
way_ends n w h =
    let ends = then_passed (ends_check n w) (λ _. then (loss_of w.letter w.metres) (λ _. price_check w.price)) h in
    ends_by (ltb w.from n) (ltb w.to n) (eqb w.from w.to) n w ends.0 refl refl refl ends.1

-- its loss is at most that of the longest way of the cable that loses most
loss_by : (b : Bool) (metres f l : ℕ) → f ≤ U_LOSS → leb metres MOST_METRES ≡ b
    → cond b (Ok (hundredth (metres * f))) (Err TooLong) ≡ Ok l → l ≤ hundredth (MOST_METRES * U_LOSS)
loss_by true metres f l h few e =
    let short = leb-true metres MOST_METRES few in
    let most : metres * f ≤ MOST_METRES * U_LOSS = mul-le-mul short h in
    let same : hundredth (metres * f) ≡ l = cc in
    omega arith
loss_by false metres f l h few e = let z : ◌≡◌ {A = ℕ} 0 1 = cc in absurd (omega arith)

loss_by_row : (b c : Bool) → cond b U_LOSS (cond c S_LOSS F_LOSS) ≤ U_LOSS
loss_by_row true c = omega arith
loss_by_row false true = omega arith
loss_by_row false false = omega arith

loss_row : (r : Result ℕ Refusal) (metres l : ℕ) → entry_of r metres ≡ Ok l → l ≤ hundredth (MOST_METRES * U_LOSS)
loss_row (Ok row) metres l h =
    loss_by (leb metres MOST_METRES) metres (loss_per_100_metres row) l (loss_by_row (eqb row 0) (eqb row 1)) refl h
loss_row (Err e) metres l h = let z : ◌≡◌ {A = ℕ} 0 1 = cc in absurd (omega arith)

pub loss_small : (letter metres l : ℕ) → loss_of letter metres ≡ Ok l → l ≤ hundredth (MOST_METRES * U_LOSS)
loss_small letter metres l h = loss_row (row_of letter) metres l h

-- Entries that have passed the checks stay good: behind a new place, with a new way behind them, and at another price.
use Rattle.std.proofs.Common.{◌≡◌, ℕ, zero, suc, ◌+◌, ◌<◌, Bool, true, false, cond, ltb, List, [], ◌∷◌, ◌++◌, length, get_or, set, is_ok, is_some, IfSome, Some, None, Option, Ok, Err, Result, sym, refl, ap, ◌∙◌, arith}
use Rattle.std.specs.List.{slice_get}
use Rattle.std.proofs.lemmas.Bool.Decides.{nat_tests}
use Rattle.subject.specs.declared.refusal.Refusal.{Refusal}
use Rattle.survey.specs.declared.entry.Place.{Place}
use Rattle.survey.specs.declared.entry.WayEntry.{WayEntry}
use Rattle.survey.specs.Card.{loss_of}
use Rattle.survey.specs.Checks.{then, price_check, place_check, ends_check, way_check, good_places, good_way, good_ways}
use Rattle.survey.specs.Edits.{with_price}
use Rattle.survey.specs.PassedChecks.{cond_first, cond_second}
use Rattle.std.proofs.lemmas.Option.{slice_get_read}

-- a test of two parts passes if both do
pub cond_both : (a b : Bool) → a ≡ true → b ≡ true → cond a b false ≡ true
cond_both a b h k = ap (λ x. cond x b false) h ∙ k

pub places_push : (ps : List Place) (p : Place) → good_places ps ≡ true → is_ok (place_check p.repeater) ≡ true → good_places (ps ++ p ∷ []) ≡ true
places_push [] p h k = cond_both (is_ok (place_check p.repeater)) true k refl
places_push (q ∷ ps) p h k =
    cond_both (is_ok (place_check q.repeater)) (good_places (ps ++ p ∷ [])) (cond_first (is_ok (place_check q.repeater)) (good_places ps) h)
    (places_push ps p (cond_second (is_ok (place_check q.repeater)) (good_places ps) h) k)

pub ways_push : (n : ℕ) (ws : List WayEntry) (w : WayEntry) → good_ways n ws ≡ true → good_way n w ≡ true → good_ways n (ws ++ w ∷ []) ≡ true
ways_push n [] w h k = cond_both (good_way n w) true k refl
ways_push n (v ∷ ws) w h k =
    cond_both (good_way n v) (good_ways n (ws ++ w ∷ [])) (cond_first (good_way n v) (good_ways n ws) h)
    (ways_push n ws w (cond_second (good_way n v) (good_ways n ws) h) k)

-- a check of two parts passes again where each part does
then_kept : {X Y : Type 0} (a b : Result X Refusal) (f g : X → Result Y Refusal) → ((x : X) → a ≡ Ok x → b ≡ Ok x)
    → ((x : X) → is_ok (f x) ≡ true → is_ok (g x) ≡ true) → is_ok (then a f) ≡ true → is_ok (then b g) ≡ true
then_kept (Ok x) b f g first second h = ap (λ r. is_ok (then r g)) (first x refl) ∙ second x h
then_kept (Err e) b f g first second h = let z : false ≡ true = h in cc

ends_more : (n : ℕ) (w : WayEntry) (x : Unit {0}) → ends_check n w ≡ Ok x → ends_check (n + 1) w ≡ Ok x
ends_more n w x h = grind (arith, nat_tests)

-- one place more takes no end of a way away
way_more : (n : ℕ) (w : WayEntry) → good_way n w ≡ true → good_way (n + 1) w ≡ true
way_more n w h =
    cond_both (is_ok (way_check (n + 1) w)) (ltb w.grade 256)
    (then_kept (ends_check n w) (ends_check (n + 1) w) _ _ (ends_more n w) (λ x k. k) (cond_first (is_ok (way_check n w)) (ltb w.grade 256) h))
    (cond_second (is_ok (way_check n w)) (ltb w.grade 256) h)

pub ways_more : (n : ℕ) (ws : List WayEntry) → good_ways n ws ≡ true → good_ways (n + 1) ws ≡ true
ways_more n [] h = refl
ways_more n (w ∷ ws) h =
    cond_both (good_way (n + 1) w) (good_ways (n + 1) ws) (way_more n w (cond_first (good_way n w) (good_ways n ws) h))
    (ways_more n ws (cond_second (good_way n w) (good_ways n ws) h))

way_priced : (n : ℕ) (w : WayEntry) (p : ℕ) → good_way n w ≡ true → is_ok (price_check p) ≡ true → good_way n (with_price w p) ≡ true
way_priced n w p h k =
    cond_both (is_ok (way_check n (with_price w p))) (ltb w.grade 256)
    (then_kept (ends_check n w) (ends_check n w) _ _ (λ x e. e)
    (λ x. then_kept (loss_of w.letter w.metres) (loss_of w.letter w.metres) _ _ (λ y e. e) (λ y q. k))
    (cond_first (is_ok (way_check n w)) (ltb w.grade 256) h))
    (cond_second (is_ok (way_check n w)) (ltb w.grade 256) h)

pub ways_priced : (n : ℕ) (ws : List WayEntry) (i : ℕ) (w : WayEntry) (p : ℕ) → good_ways n ws ≡ true → slice_get ws i ≡ Some w → is_ok (price_check p) ≡ true
    → good_ways n (set ws i (with_price w p)) ≡ true
ways_priced n [] i w p h e k = refl
ways_priced n (v ∷ ws) zero w p h e k =
    let same : v ≡ w = grind arith in
    cond_both (good_way n (with_price w p)) (good_ways n ws)
    (way_priced n w p (ap (good_way n) (sym same) ∙ cond_first (good_way n v) (good_ways n ws) h) k)
    (cond_second (good_way n v) (good_ways n ws) h)
ways_priced n (v ∷ ws) (suc i) w p h e k =
    cond_both (good_way n v) (good_ways n (set ws i (with_price w p))) (cond_first (good_way n v) (good_ways n ws) h)
    (ways_priced n ws i w p (cond_second (good_way n v) (good_ways n ws) h) e k)

-- what is lent by its number is the element of that number; `now` tells what is lent
pub lent_at : {X M : Type 0} (now : M → X) (xs : List X) (n i : ℕ) (r : Option M) (m : M) → n ≡ length xs → is_some r ≡ ltb i n
    → IfSome r (λ x. now x ≡ get_or xs i (now x)) → r ≡ Some m → slice_get xs i ≡ Some (now m)
lent_at now xs n i None m e found way is = let z : ◌≡◌ {A = ℕ} 0 1 = cc in absurd (omega arith)
lent_at now xs n i (Some k) m e found way is =
    let below : i < n = grind (arith, nat_tests, found) in
    let same : k ≡ m = cc in
    slice_get_read xs n i (now k) e below way ∙ ap (λ x. Some (now x)) same

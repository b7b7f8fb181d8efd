-- What stands in a sealed survey has passed its checks, so no way and no repeater costs more than may be
-- entered, and a path at most twice that for each of its steps.
use Rattle.std.proofs.Common.{◌≡◌, ℕ, zero, suc, ◌+◌, ◌*◌, ◌≤◌, Bool, true, false, cond, leb, List, [], ◌∷◌, length, is_ok, Some, None, Ok, Err, Option, refl, arith}
use Rattle.std.specs.List.{slice_get}
use Rattle.std.proofs.lemmas.Bool.{leb-true}
use Rattle.subject.specs.declared.refusal.Refusal.{Refusal}
use Rattle.subject.specs.declared.refusal.Refusal.TheVariants.{TooDear}
use Rattle.survey.specs.Card.{loss_of}
use Rattle.survey.specs.declared.entry.TheConstants.{MOST_CENTS}
use Rattle.survey.specs.declared.entry.Place.{Place}
use Rattle.survey.specs.declared.entry.WayEntry.{WayEntry}
use Rattle.survey.specs.declared.sealed.Sealed.{Sealed}
use Rattle.survey.specs.Sealing.{sealed_contents}
use Rattle.survey.specs.Checks.{then, price_check, place_check, ends_check, way_check, good_places, good_way, good_ways}
use Rattle.survey.specs.PassedChecks.{cond_first, cond_second, way_passed, then_passed}
use Rattle.subject.specs.declared.run.Step.{Step}
use Rattle.relays.specs.Problem.{price_at, arrival, repeater_at, relay_cents, relay_price, value}
use Rattle.relays.proofs.Totals.{set_cents, value_front}

price_low : (p : ℕ) → is_ok (price_check p) ≡ true → p ≤ MOST_CENTS
price_low p h = by (leb p MOST_CENTS) refl h
  where
    by : (b : Bool) → leb p MOST_CENTS ≡ b
        → is_ok {T = Unit {0}} {E = Refusal} (cond b (Ok tt) (Err TooDear)) ≡ true → p ≤ MOST_CENTS
    by true e k = leb-true p MOST_CENTS e
    by false e k = let z : ◌≡◌ {A = ℕ} 0 1 = cc in absurd (omega arith)

way_price : (n : ℕ) (w : WayEntry) → is_ok (way_check n w) ≡ true → w.price ≤ MOST_CENTS
way_price n w h =
    let ends = then_passed (ends_check n w) (λ _. then (loss_of w.letter w.metres) (λ _. price_check w.price)) h in
    let cable = then_passed (loss_of w.letter w.metres) (λ _. price_check w.price) ends.2 in
    price_low w.price cable.2

ways_low : (n : ℕ) (ws : List WayEntry) (i : ℕ) → good_ways n ws ≡ true → price_at (slice_get ws i) ≤ MOST_CENTS
ways_low n [] i h = omega arith
ways_low n (w ∷ ws) zero h = way_price n w (way_passed n w (cond_first (good_way n w) (good_ways n ws) h))
ways_low n (w ∷ ws) (suc i) h = ways_low n ws i (cond_second (good_way n w) (good_ways n ws) h)

relay_low : (o : Option ℕ) → is_ok (place_check o) ≡ true → relay_cents o ≤ MOST_CENTS
relay_low None h = omega arith
relay_low (Some cents) h = price_low cents h

places_low : (ps : List Place) (i : ℕ) → good_places ps ≡ true → relay_cents (repeater_at (slice_get ps i)) ≤ MOST_CENTS
places_low [] i h = omega arith
places_low (p ∷ ps) zero h = relay_low p.repeater (cond_first (is_ok (place_check p.repeater)) (good_places ps) h)
places_low (p ∷ ps) (suc i) h = places_low ps i (cond_second (is_ok (place_check p.repeater)) (good_places ps) h)

module _ (s : Sealed) where
  step_low : (mark : Bool) (w p : ℕ)
      → price_at (slice_get (sealed_contents s).ways w) + set_cents mark (relay_price (sealed_contents s) p) ≤ 2 * MOST_CENTS
  step_low mark w p =
      let d = s.draft in
      let way = ways_low _ (sealed_contents s).ways w d.good_ways in
      let relay = places_low (sealed_contents s).places p d.good_places in
      by mark way relay
    where
      by : (b : Bool) {x y : ℕ} → x ≤ MOST_CENTS → y ≤ MOST_CENTS → x + set_cents b y ≤ 2 * MOST_CENTS
      by true h k = omega arith
      by false h k = omega arith

  pub value_low : (run : List Step) → value (sealed_contents s) run ≤ length run * (2 * MOST_CENTS)
  value_low [] = omega arith
  value_low (t ∷ rest) =
      let front = value_front (sealed_contents s) t rest in
      let step = step_low t.mark t.way (arrival (sealed_contents s) t) in
      let more = value_low rest in
      omega arith

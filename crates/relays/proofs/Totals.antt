-- Over the site of a survey for money the total of a lawful run is what it costs, up to the ceiling: to stop at
-- the ceiling after each joining is to stop there once. By induction over the steps from the front, for any sum
-- so far.
use Rattle.std.proofs.Common.{◌≡◌, ℕ, ◌+◌, ◌≤◌, min, Bool, true, false, cond, List, [], ◌∷◌, map, Some, sum, ap, ◌∙◌, subst, arith}
use Rattle.std.specs.List.{slice_get}
use Rattle.subject.specs.Moneys.{of_cents, sum_of}
use Rattle.subject.specs.declared.money.TheConstants.{CEILING}
use Rattle.subject.specs.declared.money.Money.{Money}
use Rattle.survey.specs.Contents.{Contents}
use Rattle.subject.specs.declared.run.Step.{Step}
use Rattle.subject.specs.Problems.{Problem}
use Rattle.subject.specs.Runs.{IsMarkAllowed, with_repeater, after_way, loss_after, IsLawful, total_from}
use Rattle.relays.specs.Problem.{RelayProblem, arrival_at, price_at, price, arrival, relays, relay_cents, relay_price, value}
use Rattle.relays.proofs.Lawful.{sum_front, entered_relay, money_asked, crossing}

-- the cents n, or the ceiling where they are more
abbrev pub capped_money : ℕ → Money
capped_money n = of_cents (min n CEILING)

-- what a repeater adds, if one is set
abbrev pub set_cents : Bool → ℕ → ℕ
set_cents mark cents = cond mark cents 0

relays_sum : (c : Contents) (mark : Bool) (p : ℕ) (ps : List ℕ)
    → sum (map (relay_price c) (cond mark (p ∷ ps) ps)) ≡ set_cents mark (relay_price c p) + sum (map (relay_price c) ps)
relays_sum c true p ps = sum_front (relay_price c p) (map (relay_price c) ps)
relays_sum c false p ps = omega arith

-- what the first step adds to the value
pub value_front : (c : Contents) (s : Step) (rest : List Step)
    → value c (s ∷ rest) ≡ price c s + set_cents s.mark (relay_price c (arrival c s)) + value c rest
value_front c s rest =
    let ways = sum_front (price c s) (map (price c) rest) in
    let set = relays_sum c s.mark (arrival c s) (relays c rest) in
    omega arith

module _ (R : RelayProblem) where
  abbrev P : Problem Money
  P = money_asked R

  abbrev c : Contents
  c = R.contents

  -- the sum after a step
  after_step : (a cents : ℕ) (mark : Bool) (p : ℕ) → IsMarkAllowed P mark p
      → cond mark (with_repeater P (sum_of (of_cents a) (of_cents cents)) (P.site.repeater p)) (sum_of (of_cents a) (of_cents cents))
      ≡ capped_money (a + cents + set_cents mark (relay_price c p))
  after_step a cents true p k =
      let r = entered_relay (slice_get c.places p) k.repeater k.entered in
      let is : relay_price c p ≡ r.0 = ap relay_cents r.1 in
      ap (with_repeater P (sum_of (of_cents a) (of_cents cents))) k.entered
      ∙ ap (sum_of (sum_of (of_cents a) (of_cents cents))) r.2
      ∙ ap of_cents (omega arith)
  after_step a cents false p k = ap of_cents (omega arith)

  pub total_capped : (p l a : ℕ) (run : List Step) → a ≤ CEILING → IsLawful P p l run
      → total_from P (of_cents a) run ≡ capped_money (a + value c run)
  total_capped p l a [] low here = ap of_cents (omega arith)
  total_capped p l a (s ∷ rest) low (w, goes, on) =
      let over = crossing R s w goes.opens in
      let e = over.entry in
      let arrives : w.to ≡ e.to = ap (λ v. v.to) over.way in
      let here : arrival c s ≡ e.to = ap arrival_at over.entered in
      let cents : price c s ≡ e.price = ap price_at over.entered in
      let allowed = subst (λ (x : ℕ). IsMarkAllowed P s.mark x) arrives goes.marks in
      let so_far = a + e.price + set_cents s.mark (relay_price c e.to) in
      let step : after_way P (of_cents a) s.mark (P.site.way s.way) ≡ capped_money so_far =
      ap (after_way P (of_cents a) s.mark) (goes.opens ∙ ap Some over.way) ∙ after_step a e.price s.mark e.to allowed in
      let front = value_front c s rest in
      let relay = ap (λ (x : ℕ). set_cents s.mark (relay_price c x)) here in
      ap (λ sum. total_from P sum rest) step
      ∙ total_capped w.to (loss_after s.mark (l + w.loss)) (min so_far CEILING) rest (omega arith) on
      ∙ ap of_cents (omega arith)

-- Over the site of a survey for money with some ways shut a run is lawful just if it is feasible: the loss on
-- each arrival is the sum of the losses of the stretch so far, so it keeps within the bound on every arrival
-- just if the whole stretch does. By induction over the steps from the front, for any place and any loss so
-- far.
use Rattle.std.proofs.Common.{◌≡◌, ℕ, ◌+◌, ◌≤◌, Bool, true, false, cond, List, [], ◌∷◌, Some, None, sum, Option, sym, refl, ap, ◌∙◌, subst, arith}
use Rattle.std.specs.List.{slice_get, AllByRecursion as All}
use Rattle.std.proofs.lemmas.List.Sums.{sum_by-cons}
use Rattle.subject.specs.declared.money.Money.{Money}
use Rattle.subject.specs.Moneys.{of_cents, money}
use Rattle.survey.specs.declared.entry.Place.{Place}
use Rattle.survey.specs.declared.entry.WayEntry.{WayEntry}
use Rattle.subject.specs.declared.way.Way.{Way}
use Rattle.subject.specs.declared.run.Step.{Step}
use Rattle.subject.specs.Problems.{Problem}
use Rattle.subject.specs.Runs.{IsMarkable, IsMarkAllowed, IsStepOver, loss_after, IsLawful, IsRun}
use Rattle.search.proofs.Trails.{after_low}
use Rattle.survey.specs.SurveySite.{money_site, way_of, open_way, repeater_of, priced_as, entry_loss}
use Rattle.survey.specs.SiteBounds.{entered}
use Rattle.job.specs.Jobs.{shutting}
use Rattle.relays.specs.Problem.{RelayProblem, IsStepFrom, IsPath, loss_at, arrival_at, loss, arrival, relays, with_loss, stretches, repeater_at, IsRelayAllowed, IsFeasible}

pub sum_front : (x : ℕ) (xs : List ℕ) → sum (x ∷ xs) ≡ x + sum xs
sum_front x xs = sum_by-cons (λ y. y) x xs

-- the first stretch keeps within the bound with the loss l before it, and every other one does by itself
abbrev pub IsWithinFrom : ℕ → ℕ → List (List ℕ) → Type 0
IsWithinFrom bound l [] = l ≤ bound
IsWithinFrom bound l (first ∷ others) = (l + sum first ≤ bound) × All (λ losses. sum losses ≤ bound) others

all_within : (bound : ℕ) (ls : List (List ℕ)) → All (λ losses. sum losses ≤ bound) ls → IsWithinFrom bound 0 ls
all_within bound [] h = omega arith
all_within bound (x ∷ xs) h = (let first = h.0 in omega arith, h.1)

within_all : (bound : ℕ) (ls : List (List ℕ)) → IsWithinFrom bound 0 ls → All (λ losses. sum losses ≤ bound) ls
within_all bound [] h = tt
within_all bound (x ∷ xs) h = (let first = h.0 in omega arith, h.1)

-- a step that loses a before the stretches ls, with a repeater where it arrives or without
abbrev cut : Bool → ℕ → List (List ℕ) → List (List ℕ)
cut mark a ls = cond mark ((a ∷ []) ∷ ls) (with_loss a ls)

within_step : (bound l a : ℕ) (mark : Bool) (ls : List (List ℕ)) → l + a ≤ bound
    → IsWithinFrom bound (loss_after mark (l + a)) ls → IsWithinFrom bound l (cut mark a ls)
within_step bound l a true ls h on = (omega arith, within_all bound ls on)
within_step bound l a false [] h on = (omega arith, tt)
within_step bound l a false (x ∷ xs) h on = (let first = on.0 in let front = sum_front a x in omega arith, on.1)

step_within : (bound l a : ℕ) (mark : Bool) (ls : List (List ℕ)) → IsWithinFrom bound l (cut mark a ls)
    → (l + a ≤ bound) × IsWithinFrom bound (loss_after mark (l + a)) ls
step_within bound l a true ls h = (let first = h.0 in omega arith, all_within bound ls h.1)
step_within bound l a false [] h = (let first = h.0 in omega arith, let first = h.0 in omega arith)
step_within bound l a false (x ∷ xs) h =
    let first = h.0 in
    let front = sum_front a x in
    (omega arith, (omega arith, h.1))

-- a repeater of the site is one whose price was entered
pub entered_relay : (o : Option Place) (r : Money) → repeater_of of_cents o ≡ Some r
    → (cents : ℕ) × (repeater_at o ≡ Some cents) × (r ≡ of_cents cents)
entered_relay None r h = let z : ◌≡◌ {A = ℕ} 0 1 = cc in absurd (omega arith)
entered_relay (Some p) r h = priced_relay p.repeater r h
  where
    priced_relay : (o : Option ℕ) (r : Money) → priced_as of_cents o ≡ Some r
        → (cents : ℕ) × (o ≡ Some cents) × (r ≡ of_cents cents)
    priced_relay None r h = let z : ◌≡◌ {A = ℕ} 0 1 = cc in absurd (omega arith)
    priced_relay (Some cents) r h = (cents, refl, cc)

pub relay_entered : (o : Option Place) (cents : ℕ) → repeater_at o ≡ Some cents → repeater_of of_cents o ≡ Some (of_cents cents)
relay_entered None cents h = let z : ◌≡◌ {A = ℕ} 0 1 = cc in absurd (omega arith)
relay_entered (Some p) cents h = ap (priced_as of_cents) h

-- a way that is open with some ways shut is not shut, and is open without
pub open_unshut : {A : Type 0} (b : Bool) (o : Option A) (w : A) → cond b None o ≡ Some w → (b ≡ false) × (o ≡ Some w)
open_unshut true o w e = absurd (let z : ◌≡◌ {A = ℕ} 0 1 = cc in omega arith)
open_unshut false o w e = (refl, e)

unshut_open : {A : Type 0} (b : Bool) (o : Option A) (w : A) → b ≡ false → o ≡ Some w → cond b None o ≡ Some w
unshut_open true o w n e = let z : ◌≡◌ {A = ℕ} 0 1 = cc in absurd (omega arith)
unshut_open false o w n e = e

-- what a plan for money is asked
abbrev pub money_asked : RelayProblem → Problem Money
money_asked R = record { kind = money; site = shutting (money_site R.contents) R.is_shut; request = R.request }

-- a step over an open way: what was entered for the way, and what is known of it
pub record Crossing (R : RelayProblem) (s : Step) (w : Way Money) : Type 0 where
  pub entry : WayEntry
  pub entered : slice_get R.contents.ways s.way ≡ Some entry
  pub not_shut : R.is_shut s.way ≡ false
  pub way : w ≡ open_way entry (of_cents entry.price)

module _ (R : RelayProblem) where
  abbrev P : Problem Money
  P = money_asked R

  pub crossing : (s : Step) (w : Way Money) → P.site.way s.way ≡ Some w → Crossing R s w
  crossing s w opens =
      let unshut = open_unshut (R.is_shut s.way) (way_of (λ e. of_cents e.price) (slice_get R.contents.ways s.way)) w opens in
      let e = entered (λ e. of_cents e.price) (slice_get R.contents.ways s.way) w unshut.1 in
      record { entry = e.0; entered = e.1; not_shut = unshut.0; way = e.2 }

  markable_allowed : (p : ℕ) → IsMarkable P p → IsRelayAllowed R p
  markable_allowed p k =
      let r = entered_relay (slice_get R.contents.places p) k.repeater k.entered in
      record { cents = r.0; entered = r.1; not_start = k.not_start; not_end = k.not_end }

  allowed_markable : (p : ℕ) → IsRelayAllowed R p → IsMarkable P p
  allowed_markable p k = record {
    repeater = of_cents k.cents;
    entered = relay_entered (slice_get R.contents.places p) k.cents k.entered;
    not_start = k.not_start;
    not_end = k.not_end;
  }

  -- the repeaters of a path, with one more at its front or without
  relays_on : (mark : Bool) (p : ℕ) (ps : List ℕ) → IsMarkAllowed P mark p → All (IsRelayAllowed R) ps
      → All (IsRelayAllowed R) (cond mark (p ∷ ps) ps)
  relays_on true p ps k all = (markable_allowed p k, all)
  relays_on false p ps k all = all

  relays_back : (mark : Bool) (p : ℕ) (ps : List ℕ) → All (IsRelayAllowed R) (cond mark (p ∷ ps) ps)
      → IsMarkAllowed P mark p × All (IsRelayAllowed R) ps
  relays_back true p ps all = (allowed_markable p all.0, all.1)
  relays_back false p ps all = (tt, all)

  -- feasible from the place p on, with the loss l so far
  pub record IsFeasibleFrom (p l : ℕ) (run : List Step) : Type 0 where
    pub path : IsPath R p run
    pub relays_allowed : All (IsRelayAllowed R) (relays R.contents run)
    pub within_bound : IsWithinFrom R.request.bound l (stretches R.contents run)

  pub lawful_from : (p l : ℕ) (run : List Step) → l ≤ R.request.bound → IsLawful P p l run → IsFeasibleFrom p l run
  lawful_from p l [] low here = record { path = here; relays_allowed = tt; within_bound = (omega arith, tt) }
  lawful_from p l (s ∷ rest) low (w, goes, on) =
      let c = R.contents in
      let bound = R.request.bound in
      let over = crossing s w goes.opens in
      let to : w.to ≡ over.entry.to = ap (λ v. v.to) over.way in
      let arrives : w.to ≡ arrival c s = to ∙ sym (ap arrival_at over.entered) in
      let lost : w.loss ≡ loss c s = ap (λ v. v.loss) over.way ∙ sym (ap loss_at over.entered) in
      let low' : loss_after s.mark (l + w.loss) ≤ bound = after_low P s.mark _ _ goes.arrives refl in
      let ahead = lawful_from w.to (loss_after s.mark (l + w.loss)) rest low' on in
      let marks = subst (λ (x : ℕ). IsMarkAllowed P s.mark x) arrives goes.marks in
      let step : IsStepFrom R p s over.entry = record {
        entered = over.entered;
        not_shut = over.not_shut;
        leaves = sym (ap (λ v. v.from) over.way) ∙ goes.leaves;
      } in
      let FromLoss : ℕ → Type 0 = λ x. IsWithinFrom bound (loss_after s.mark (l + x)) (stretches c rest) in
      record {
        path = (over.entry, step, subst (λ (x : ℕ). IsPath R x rest) to ahead.path);
        relays_allowed = relays_on s.mark (arrival c s) (relays c rest) marks ahead.relays_allowed;
        within_bound = within_step bound l (loss c s) s.mark (stretches c rest)
            (subst (λ (x : ℕ). l + x ≤ bound) lost goes.arrives) (subst FromLoss lost ahead.within_bound);
      }

  pub from_lawful : (p l : ℕ) (run : List Step) → IsFeasibleFrom p l run → IsLawful P p l run
  from_lawful p l [] a = a.path
  from_lawful p l (s ∷ rest) a =
      let c = R.contents in
      let bound = R.request.bound in
      let e = a.path.0 in
      let at = a.path.1 in
      let way = ap (way_of (λ v. of_cents v.price)) at.entered in
      let w : Way Money = open_way e (of_cents e.price) in
      let lost : loss c s ≡ entry_loss e = ap loss_at at.entered in
      let step = step_within bound l (loss c s) s.mark (stretches c rest) a.within_bound in
      let set = relays_back s.mark (arrival c s) (relays c rest) a.relays_allowed in
      let FromLoss : ℕ → Type 0 = λ x. IsWithinFrom bound (loss_after s.mark (l + x)) (stretches c rest) in
      let goes : IsStepOver P p l s w = record {
        opens = unshut_open (R.is_shut s.way) (way_of (λ v. of_cents v.price) (slice_get c.ways s.way)) w at.not_shut way;
        leaves = at.leaves;
        arrives = subst (λ (x : ℕ). l + x ≤ bound) lost step.0;
        marks = subst (λ (x : ℕ). IsMarkAllowed P s.mark x) (ap arrival_at at.entered) set.0;
      } in
      let on : IsFeasibleFrom e.to (loss_after s.mark (l + entry_loss e)) rest = record {
        path = a.path.2;
        relays_allowed = set.1;
        within_bound = subst FromLoss lost step.1;
      } in
      (w, goes, from_lawful e.to (loss_after s.mark (l + entry_loss e)) rest on)

  -- a lawful run is feasible, and a feasible one lawful
  pub lawful_feasible : (run : List Step) → IsRun P run → IsFeasible R run
  lawful_feasible run r =
      let a = lawful_from R.request.start 0 run (omega arith) r in
      record {
        path = a.path;
        relays_allowed = a.relays_allowed;
        within_bound = within_all R.request.bound (stretches R.contents run) a.within_bound;
      }

  pub feasible_lawful : (run : List Step) → IsFeasible R run → IsRun P run
  feasible_lawful run f =
      let bound = R.request.bound in
      from_lawful R.request.start 0 run (record {
        path = f.path;
        relays_allowed = f.relays_allowed;
        within_bound = all_within bound (stretches R.contents run) f.within_bound;
      })

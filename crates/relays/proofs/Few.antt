-- A lawful run that leaves no place twice with the same loss has at most as many steps as there are places with
-- losses up to the bound: the numbers of the cells that it leaves are all different, and there are so many
-- numbers (a pigeonhole, of the library).
use Rattle.std.proofs.Common.{◌≡◌, ℕ, suc, ◌+◌, ◌*◌, ◌/◌, ◌%◌, ◌<◌, ◌≤◌, true, false, eqb, List, [], ◌∷◌, length, sym, refl, ap, ◌∙◌, subst, inl, inr, arith}
use lib.Arith.{digits_div, digits_mod, digits_lt}
use Rattle.std.specs.List.{AllByRecursion, IsDistinct, list_any}
use Rattle.std.proofs.lemmas.Bool.{eqb-true, ne_eqb, or_cases}
use Rattle.std.proofs.lemmas.Map.Steps.{length-le_from_distinct_below}
use Rattle.subject.specs.declared.run.Step.{Step}
use Rattle.subject.specs.Problems.{Problem}
use Rattle.subject.specs.Sites.{IsBounded}
use Rattle.subject.specs.Runs.{loss_after, IsLawful, IsRun, place_behind, loss_behind, IsAvoided, NoneTwice}
use Rattle.search.proofs.Trails.{after_low}

module _ {C : Type 0} (P : Problem C) (bounded : IsBounded P.site) where
  abbrev bound : ℕ
  bound = P.request.bound

  -- the number of a place with a loss, where a step leads, and with which loss
  abbrev cell : ℕ → ℕ → ℕ
  cell p l = p * (bound + 1) + l

  abbrev place : Step → ℕ
  place s = place_behind (P.site.way s.way)

  abbrev loss : ℕ → Step → ℕ
  loss l s = loss_behind (P.site.way s.way) s.mark l

  -- the numbers that a run leaves
  abbrev run_cells : ℕ → ℕ → List Step → List ℕ
  run_cells p l [] = []
  run_cells p l (s ∷ rest) = cell p l ∷ run_cells (place s) (loss l s) rest

  -- a lawful step leaves a place of the site, and arrives with a loss within the bound, and lawfully goes on
  record StepLeads (p l : ℕ) (s : Step) (rest : List Step) : Type 0 where
    inside : p < P.site.places
    low : loss l s ≤ bound
    lawful : IsLawful P (place s) (loss l s) rest

  leads : (p l : ℕ) (s : Step) (rest : List Step) → IsLawful P p l (s ∷ rest) → StepLeads p l s rest
  leads p l s rest (w, goes, on) =
      let there : w.to ≡ place s = sym (ap place_behind goes.opens) in
      let lost : loss_after s.mark (l + w.loss) ≡ loss l s = sym (ap (λ o. loss_behind o s.mark l) goes.opens) in
      let here = subst (λ (x : ℕ). IsLawful P x (loss_after s.mark (l + w.loss)) rest) there on in
      record {
        inside = subst (λ (x : ℕ). x < P.site.places) goes.leaves (bounded.from_in s.way w goes.opens);
        low = subst (λ (x : ℕ). x ≤ bound) lost (after_low P s.mark _ _ goes.arrives refl);
        lawful = subst (λ (x : ℕ). IsLawful P (place s) x rest) lost here;
      }

  cells_length : (p l : ℕ) (run : List Step) → length (run_cells p l run) ≡ length run
  cells_length p l [] = refl
  cells_length p l (s ∷ rest) = ap suc (cells_length (place s) (loss l s) rest)

  cells_below : (p l : ℕ) (run : List Step) → l ≤ bound → IsLawful P p l run → (y : ℕ)
      → list_any (eqb y) (run_cells p l run) ≡ true → y < P.site.places * (bound + 1)
  cells_below p l [] low on y among = absurd (let z : ◌≡◌ {A = ℕ} 0 1 = cc in omega arith)
  cells_below p l (s ∷ rest) low on y among =
      let next = leads p l s rest on in
      let short : l < bound + 1 = omega arith in
      let Below : ℕ → Type 0 = λ x. x < P.site.places * (bound + 1) in
      elim (or_cases _ _ among) [
        | inl is ↦ subst Below (sym (eqb-true y (cell p l) is)) (digits_lt next.inside short)
        | inr later ↦ cells_below (place s) (loss l s) rest next.low next.lawful y later
      ]

  one_cell : (p l a b : ℕ) → l ≤ bound → b ≤ bound → cell p l ≡ cell a b → (p ≡ a) × (l ≡ b)
  one_cell p l a b low low' e =
      let short : l < bound + 1 = omega arith in
      let short' : b < bound + 1 = omega arith in (
        sym (digits_div p short) ∙ ap (λ (x : ℕ). x / (bound + 1)) e ∙ digits_div a short',
        sym (digits_mod p short) ∙ ap (λ (x : ℕ). x % (bound + 1)) e ∙ digits_mod a short',
      )

  cells_avoids : (a b p l : ℕ) (run : List Step) → b ≤ bound → l ≤ bound → IsLawful P p l run → IsAvoided P a b p l run
      → AllByRecursion (λ y. eqb (cell a b) y ≡ false) (run_cells p l run)
  cells_avoids a b p l [] low' low on h = tt
  cells_avoids a b p l (s ∷ rest) low' low on h =
      let next = leads p l s rest on in (
        ne_eqb (cell a b) (cell p l) (λ e. let same = one_cell p l a b low low' (sym e) in h.0 same.0 same.1),
        cells_avoids a b (place s) (loss l s) rest low' next.low next.lawful h.1,
      )

  cells_distinct : (p l : ℕ) (run : List Step) → l ≤ bound → IsLawful P p l run → NoneTwice P p l run
      → IsDistinct eqb (run_cells p l run)
  unfolding IsDistinct
  cells_distinct p l [] low on h = tt
  cells_distinct p l (s ∷ rest) low on h =
      let next = leads p l s rest on in (
        cells_avoids p l (place s) (loss l s) rest low next.low next.lawful h.0,
        cells_distinct (place s) (loss l s) rest next.low next.lawful h.1,
      )

  pub few_steps : (run : List Step) → IsRun P run → NoneTwice P P.request.start 0 run
      → length run ≤ P.site.places * (P.request.bound + 1)
  few_steps run on h =
      let start = P.request.start in
      let same = cells_length start 0 run in
      let distinct = cells_distinct start 0 run (omega arith) on h in
      let below = cells_below start 0 run (omega arith) on in
      let few = length-le_from_distinct_below (run_cells start 0 run) (P.site.places * (bound + 1)) distinct below in
      omega arith

-- With as many rows of each sort as a plan needs, none is refused for too few of them.
use Rattle.std.proofs.Common.{◌≡◌, ℕ, ◌≤◌, length, inl, inr, arith}
use Rattle.subject.specs.declared.refusal.Refusal.{Refusal}
use Rattle.subject.specs.declared.refusal.Refusal.TheVariants.{TooFewRows}
use Rattle.subject.specs.declared.run.Request.{Request}
use Rattle.survey.specs.Contents.{Contents}
use Rattle.search.specs.Checks.{needed_rows}
use Rattle.answers.specs.Plans.{rows_each, PlanRefused}

module _ (c : Contents) (q : Request) (rows : ℕ) (e : Refusal) where
  pub rows_enough : needed_rows (length c.places) q ≤ rows → PlanRefused c q (rows_each rows) e → e ≡ TooFewRows → ⊥
  rows_enough enough (inl (inl s)) few = let is = s.0 in let z : ◌≡◌ {A = ℕ} 0 1 = cc in omega arith
  rows_enough enough (inl (inr (inl s))) few = let is = s.0 in let z : ◌≡◌ {A = ℕ} 0 1 = cc in omega arith
  rows_enough enough (inl (inr (inr s))) few =
      elim s.3 [ inl x ↦ omega arith | inr y ↦ elim y [ inl x ↦ omega arith | inr x ↦ omega arith ] ]
  rows_enough enough (inr s) few = let is = s.0 in let z : ◌≡◌ {A = ℕ} 0 1 = cc in omega arith

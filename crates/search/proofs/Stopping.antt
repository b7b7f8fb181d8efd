-- A request for which there is a cause before any search does not pass the checks, and is not told that there is no run: each cause
-- speaks against one part of what passes, and has a number of its own.
use Rattle.std.proofs.Common.{◌≡◌, ℕ, inl, inr, arith}
use Rattle.subject.specs.declared.refusal.Refusal.{Refusal}
use Rattle.subject.specs.declared.refusal.Refusal.TheVariants.{NoRun}
use Rattle.subject.specs.declared.run.Request.{Request}
use Rattle.search.specs.declared.check.RowCounts.{RowCounts}
use Rattle.search.specs.Checks.{ChecksPass, FirstCause}

module _ (places : ℕ) (q : Request) (counts : RowCounts) (e : Refusal) where
  pub cause_fails : FirstCause places q counts e → ChecksPass places q counts → ⊥
  cause_fails s p =
      let start = p.places_exist.start in
      let end = p.places_exist.end in
      let least = p.bound_in_range.least in
      let most = p.bound_in_range.most in
      let of_cells = p.rows_suffice.of_cells in
      let of_queue = p.rows_suffice.of_queue in
      let of_run = p.rows_suffice.of_run in
      elim s [
        | inl a ↦ elim a.1 [ inl x ↦ omega arith | inr x ↦ omega arith ]
        | inr b ↦ elim b [
          | inl a ↦ elim a.2 [ inl x ↦ omega arith | inr x ↦ omega arith ]
          | inr a ↦ elim a.3 [ inl x ↦ omega arith | inr y ↦ elim y [ inl x ↦ omega arith | inr x ↦ omega arith ] ]
        ]
      ]

  pub cause_other : FirstCause places q counts e → e ≡ NoRun → ⊥
  cause_other (inl s) n = let a = s.0 in let z : ◌≡◌ {A = ℕ} 0 1 = cc in omega arith
  cause_other (inr (inl s)) n = let a = s.0 in let z : ◌≡◌ {A = ℕ} 0 1 = cc in omega arith
  cause_other (inr (inr s)) n = let a = s.0 in let z : ◌≡◌ {A = ℕ} 0 1 = cc in omega arith

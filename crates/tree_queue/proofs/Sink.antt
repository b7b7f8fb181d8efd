-- One step down the tree, to the foremost position below, keeps a cell sinking, and the fall ends arranged: by cases as
-- in a climb. In an arranged tree the cell at the top may stand above every other, by going up from it.
use Rattle.std.proofs.Common.{◌≡◌, ℕ, zero, suc, ◌<◌, ◌≤◌, ◌≢◌, List, get_or, sym, refl, ap, ◌∙◌, inl, inr, arith}
use Rattle.std.proofs.lemmas.Bool.{cases_eq}
use Rattle.tree_queue.proofs.Related.{moved}
use Rattle.tree_queue.specs.Order.{IsTree, IsExchange, IsSinking, IsForemost, IsArranged}

module _ {up down : ℕ → ℕ} (t : IsTree up down) {R : ℕ → ℕ → Type 0} (trans : (a b c : ℕ) → R a b → R b c → R a c) where
  module _ {cs ps cs' ps' : List ℕ} {len i j : ℕ} (l : IsForemost up R cs len i j) (x : IsExchange cs ps cs' ps' i j) (s : IsSinking up R cs len i) (less : R (get_or cs j 0) (get_or cs i 0)) where
    others' : (k : ℕ) → 0 < k → k < len → up k ≢ j → R (get_or cs' (up k) 0) (get_or cs' k 0)
    others' k h b np =
        let u = t.earlier k h in
        elim (cases_eq k j) [
          | inl e ↦ moved R (ap (λ m. get_or cs' m 0) (ap up e ∙ l.child) ∙ x.at_i) (ap (λ m. get_or cs' m 0) e ∙ x.at_j) less
          | inr nj ↦ elim (cases_eq (up k) i) [
            | inl e ↦ moved R (ap (λ m. get_or cs' m 0) e ∙ x.at_i) (x.else k (λ q. omega arith) nj) (l.low k h b e)
            | inr npi ↦ elim (cases_eq k i) [
              | inl e ↦ moved R (x.else (up k) npi np ∙ ap (λ m. get_or cs (up m) 0) e) (ap (λ m. get_or cs' m 0) e ∙ x.at_i) (s.across j (omega (arith, l.after)) l.before_len (omega arith) l.child)
              | inr ni ↦ moved R (x.else (up k) npi np) (x.else k ni nj) (s.others k h b npi)
            ]
          ]
        ]

    across' : (k : ℕ) → 0 < k → k < len → 0 < j → up k ≡ j → R (get_or cs' (up j) 0) (get_or cs' k 0)
    across' k h b hj e =
        let a = l.after in
        let u = t.earlier k h in
        let step = s.others k h b (λ q. omega arith) in
        moved R (ap (λ m. get_or cs' m 0) l.child ∙ x.at_i) (x.else k (λ q. omega arith) (λ q. omega arith)) (moved R (ap (λ m. get_or cs m 0) (sym e)) refl step)

    pub sunk : IsSinking up R cs' len j
    sunk = record { others = others'; across = across' }

  -- the fall ends: the foremost below may stand there
  pub at_rest : {cs : List ℕ} {len i j : ℕ} → IsForemost up R cs len i j → IsSinking up R cs len i → R (get_or cs i 0) (get_or cs j 0) → IsArranged up R cs len
  at_rest {cs = cs} {i = i} l s ahead k h b =
      elim (cases_eq (up k) i) [
        | inl e ↦ moved R (ap (λ m. get_or cs m 0) e) refl (trans _ _ _ ahead (l.low k h b e))
        | inr np ↦ s.others k h b np
      ]

  pub top_ahead : (cs : List ℕ) (len fuel k : ℕ) → R (get_or cs 0 0) (get_or cs 0 0) → IsArranged up R cs len → k ≤ fuel → k < len → R (get_or cs 0 0) (get_or cs k 0)
  top_ahead cs len zero k self a f b = moved R refl (ap (λ m. get_or cs m 0) (omega arith)) self
  top_ahead cs len (suc fuel) k self a f b =
      elim (cases_eq k 0) [
        | inl e ↦ moved R refl (ap (λ m. get_or cs m 0) e) self
        | inr ne ↦
            let pos : 0 < k = omega arith in
            let u = t.earlier k pos in
            trans _ _ _ (top_ahead cs len fuel (up k) self a (omega arith) (omega arith)) (a k pos b)
      ]

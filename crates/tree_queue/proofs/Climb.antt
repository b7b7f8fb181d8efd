-- One step up the tree keeps a cell rising: by cases on whether a position or the one above it took part in the
-- exchange. Of the relation only transitivity counts.
use Rattle.std.proofs.Common.{◌≡◌, ℕ, ◌<◌, ◌≢◌, List, get_or, sym, refl, ap, ◌∙◌, inl, inr, arith}
use Rattle.std.proofs.lemmas.Bool.{cases_eq}
use Rattle.tree_queue.proofs.Related.{moved}
use Rattle.tree_queue.specs.Order.{IsTree, IsExchange, IsRising}

module _ {up down : ℕ → ℕ} (t : IsTree up down) {R : ℕ → ℕ → Type 0} (trans : (a b c : ℕ) → R a b → R b c → R a c) where
  module _ {cs ps cs' ps' : List ℕ} {len i : ℕ} (pos : 0 < i) (below : i < len) (x : IsExchange cs ps cs' ps' (up i) i) (r : IsRising up R cs len i) (less : R (get_or cs i 0) (get_or cs (up i) 0)) where
    -- another position below the one above `i`
    beside : (k : ℕ) → 0 < k → k < len → k ≢ i → up k ≡ up i → R (get_or cs (up i) 0) (get_or cs k 0)
    beside k h b ni e = moved R (ap (λ m. get_or cs m 0) (sym e)) refl (r.others k h b ni)

    others' : (k : ℕ) → 0 < k → k < len → k ≢ up i → R (get_or cs' (up k) 0) (get_or cs' k 0)
    others' k h b nu =
        elim (cases_eq k i) [
          | inl e ↦ moved R (ap (λ m. get_or cs' (up m) 0) e ∙ x.at_i) (ap (λ m. get_or cs' m 0) e ∙ x.at_j) less
          | inr ni ↦ elim (cases_eq (up k) (up i)) [
            | inl e ↦ moved R (ap (λ m. get_or cs' m 0) e ∙ x.at_i) (x.else k nu ni) (trans _ _ _ less (beside k h b ni e))
            | inr nup ↦ elim (cases_eq (up k) i) [
              | inl e ↦ moved R (ap (λ m. get_or cs' m 0) e ∙ x.at_j) (x.else k nu ni) (r.across k h b pos e)
              | inr npi ↦ moved R (x.else (up k) nup npi) (x.else k nu ni) (r.others k h b ni)
            ]
          ]
        ]

    across' : (k : ℕ) → 0 < k → k < len → 0 < up i → up k ≡ up i → R (get_or cs' (up (up i)) 0) (get_or cs' k 0)
    across' k h b hu e =
        let l1 = t.earlier i pos in
        let l2 = t.earlier (up i) hu in
        let l3 = t.earlier k h in
        let n1 : up (up i) ≢ up i = λ q. omega arith in
        let n2 : up (up i) ≢ i = λ q. omega arith in
        let nu : k ≢ up i = λ q. omega arith in
        let step = r.others (up i) hu (omega arith) (λ q. omega arith) in
        elim (cases_eq k i) [
          | inl q ↦ moved R (x.else _ n1 n2) (ap (λ m. get_or cs' m 0) q ∙ x.at_j) step
          | inr ni ↦ moved R (x.else _ n1 n2) (x.else k nu ni) (trans _ _ _ step (beside k h b ni e))
        ]

    pub risen : IsRising up R cs' len (up i)
    risen = record { others = others'; across = across' }

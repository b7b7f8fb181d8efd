-- The cell at the top leaves: it changes positions with the last that waits, which then sinks; it alone stops waiting,
-- and it may stand above all that wait.
use Rattle.std.proofs.Common.{◌≡◌, ℕ, ◌-◌, ◌<◌, ◌≤◌, Bool, ltb, ◌≢◌, List, length, get_or, sym, ap, ◌∙◌, inl, inr, arith}
use Rattle.std.proofs.lemmas.Bool.{cases_eq, cases_lt, lt-ltb, le-ltb}
use Rattle.tree_queue.specs.Order.{IsTree, IsExchange, SameWait, IsAhead}
use Rattle.tree_queue.specs.Queues.{waits_of}
use Rattle.subject.specs.Queues.{IsTaken}
use Rattle.tree_queue.proofs.Sink.{top_ahead}
use Rattle.tree_queue.proofs.Changes.{OthersStay, taken}
use Rattle.tree_queue.proofs.Ordered.{IsOrdered}
use Rattle.tree_queue.proofs.Ranks.{IsRank, ahead_itself, ahead_transitive}

pub same_less : (a b : ℕ) → 0 < b → a ≢ b - 1 → ltb a (b - 1) ≡ ltb a b
same_less a b h ne = elim (cases_lt a b) [ inl l ↦ lt-ltb a (b - 1) (omega arith) ∙ sym (lt-ltb a b l) | inr g ↦ le-ltb a (b - 1) (omega arith) ∙ sym (le-ltb a b g) ]

-- what is not before a length before the change is not after it
pub not_before : (a b len : ℕ) → ltb a len ≡ ltb b len → len ≤ b → len ≤ a
not_before a b len same h =
    elim (cases_lt a len) [
      | inl l ↦ let u = lt-ltb a len l in let v = le-ltb b len h in let z : ◌≡◌ {A = ℕ} 0 1 = cc in absurd (omega arith)
      | inr g ↦ g
    ]

module _ {C : Type 0} {up down : ℕ → ℕ} (t : IsTree up down) {rank : C → C → Bool} {n len : ℕ} {ch : List C} {cs ps cs' ps' : List ℕ}
    (o : IsOrdered up rank n ch cs ps len) (hl : 0 < len) (e : IsExchange cs ps cs' ps' 0 (len - 1)) where
  others_stay : OthersStay n (get_or cs 0 0) ps len ps' (len - 1)
  others_stay k h ne =
      let w = o.len_in_rows in
      elim (cases_eq k (get_or cs (len - 1) 0)) [
        | inl q ↦
            let f : get_or ps' k 0 ≡ 0 = ap (λ m. get_or ps' m 0) q ∙ e.pos_j in
            let g : get_or ps k 0 ≡ len - 1 = ap (λ m. get_or ps m 0) q ∙ o.placement.there (len - 1) (omega arith) in
            let more : len - 1 ≢ 0 = λ z. ne (q ∙ ap (λ m. get_or cs m 0) z) in
            lt-ltb _ (len - 1) (omega arith) ∙ sym (lt-ltb _ len (omega arith))
        | inr nl ↦
            let apart : get_or ps k 0 ≢ len - 1 = λ z. nl (sym (o.placement.back k h) ∙ ap (λ m. get_or cs m 0) z) in
            ap (λ m. ltb m (len - 1)) (e.pos_else k ne nl) ∙ same_less (get_or ps k 0) len hl apart
      ]

  pub top_taken : IsRank rank → (v : C) → ((d : C) → v ≡ get_or ch (get_or cs 0 0) d) → length ch ≡ n → (ps'' : List ℕ) → SameWait (len - 1) ps' ps''
      → IsTaken rank (waits_of ch ps len) (waits_of ch ps'' (len - 1)) (get_or cs 0 0) v
  top_taken r v hv lch ps'' same =
      let w = o.len_in_rows in
      let at = o.placement.there 0 (omega arith) in
      taken n (get_or cs 0 0) ch lch ps len ps'' (len - 1) (λ k h ne. same k ∙ others_stay k h ne) rank cs o.placement v hv
      (λ k b. top_ahead t {R = IsAhead rank ch} (ahead_transitive r ch) cs len k k (ahead_itself r ch _) o.arranged (omega arith) b)
      (o.placement.cell_in 0 (omega arith)) (omega arith)
      (not_before _ _ (len - 1) (same (get_or cs 0 0)) (omega (arith, e.pos_i)))

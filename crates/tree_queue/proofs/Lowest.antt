-- Along a chain the order holds of any two positions, by transitivity; so the last cell that waits has a lowest charge,
-- and when the length falls by one it alone stops waiting.
use Rattle.std.proofs.Common.{◌≡◌, ℕ, zero, suc, ◌+◌, ◌-◌, ◌<◌, ◌≤◌, Bool, true, false, List, length, get_or, Some, None, Option, IfSome, subst, sym, ap, ◌∙◌, inl, inr, arith}
use Rattle.std.proofs.lemmas.Bool.{cases_eq}
use lib.ListN.{length-map}
use Rattle.subject.specs.Queues.{IsTaken}
use Rattle.tree_queue.specs.Order.{IsAhead, IsArranged, may_be_above}
use Rattle.tree_queue.specs.declared.queue.TreeQueue.{TreeQueue}
use Rattle.tree_queue.specs.Queues.{waits_of, what_waits, IsLastTaken}
use Rattle.tree_queue.specs.Rows.{charges, cells, positions}
use Rattle.tree_queue.specs.Trees.{chain_parent}
use Rattle.tree_queue.proofs.Changes.{taken}
use Rattle.tree_queue.proofs.Ordered.{IsOrdered}
use Rattle.tree_queue.proofs.Ranks.{IsRank, ahead_itself, ahead_transitive}
use Rattle.tree_queue.proofs.Top.{same_less}

module _ (R : ℕ → ℕ → Type 0) (trans : (a b c : ℕ) → R a b → R b c → R a c) (same : (a : ℕ) → R a a) (cs : List ℕ) (len : ℕ) (a : IsArranged chain_parent R cs len) where
  along : (steps i j : ℕ) → i ≤ j → j ≤ i + steps → j < len → R (get_or cs i 0) (get_or cs j 0)
  along zero i j h f b = let e : j ≡ i = omega arith in rw e (same (get_or cs i 0))
  along (suc steps) i j h f b =
      elim (cases_eq j i) [
        | inl e ↦ rw e (same (get_or cs i 0))
        | inr ne ↦ trans _ _ _ (along steps i (j - 1) (omega arith) (omega arith) (omega arith)) (a j (omega arith) b)
      ]

module _ {C : Type 0} (no_more : C → C → Bool) (trans : (a b c : C) → no_more a b ≡ true → no_more b c ≡ true → no_more a c ≡ true) (total : (a b : C) → no_more a b ≡ false → no_more b a ≡ true) where
  last_taken : {n len : ℕ} {ch : List C} → length ch ≡ n → {cs ps : List ℕ} → IsOrdered chain_parent (may_be_above true no_more) n ch cs ps len → 0 < len
      → (v : C) → ((d : C) → v ≡ get_or ch (get_or cs (len - 1) 0) d) → IsTaken no_more (waits_of ch ps len) (waits_of ch ps (len - 1)) (get_or cs (len - 1) 0) v
  last_taken {n = n} {len = len} {ch = ch} lch {cs = cs} {ps = ps} o some v hv =
      let w = o.len_in_rows in
      let at = o.placement.there (len - 1) (omega arith) in
      let r : IsRank (may_be_above true no_more) = record { total = λ a b p. total b a p; transitive = λ a b c p q. trans c b a q p } in
      taken n (get_or cs (len - 1) 0) ch lch ps len ps (len - 1)
      (λ j h ne. same_less (get_or ps j 0) len some (λ z. ne (sym (o.placement.back j h) ∙ ap (λ m. get_or cs m 0) z)))
      no_more cs o.placement v hv
      (λ j b. along (IsAhead (may_be_above true no_more) ch) (ahead_transitive r ch) (ahead_itself r ch) cs len o.arranged len j (len - 1) (omega arith) (omega arith) (omega arith))
      (o.placement.cell_in (len - 1) (omega arith)) (omega arith) (omega arith)

  -- when the last cell that waits leaves, one with a lowest charge does
  pub lowest_taken : {L : Type 0} (q q' : TreeQueue C L) (r : Option (ℕ × C)) → IsArranged chain_parent (IsAhead (may_be_above true no_more) (charges q.rows.now)) (cells q.rows.now) q.len
      → IfSome r (λ p. IsLastTaken q q' p.0 p.1) → IfSome r (λ p. IsTaken no_more (what_waits q) (what_waits q') p.0 p.1)
  lowest_taken q q' None order at = at
  lowest_taken q q' (Some p) order at =
      let rows = q.rows.now in
      let some = at.waited in
      let o : IsOrdered chain_parent (may_be_above true no_more) (length rows) (charges rows) (cells rows) (positions rows) q.len = record { placement = q.placement; len_in_rows = q.len_in_rows; arranged = order } in
      let t = last_taken (length-map rows (λ r. r.charge)) o some p.1 (λ d. at.its_charge d ∙ ap (λ m. get_or (charges rows) m d) at.last) in
      rw (at.same_rows, at.one_less) (subst (λ (m : ℕ). IsTaken no_more (what_waits q) (waits_of (charges rows) (positions rows) (q.len - 1)) m p.1) (sym at.last) t)

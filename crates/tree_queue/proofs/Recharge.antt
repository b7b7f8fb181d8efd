-- A cell that waits is charged anew: it belongs higher where its charge may stand above the old one, else lower; the
-- others are arranged as they were, and across its position by transitivity.
use Rattle.std.proofs.Common.{◌≡◌, ℕ, ◌<◌, Bool, true, false, ◌≢◌, List, length, get_or, set, sym, ap, ◌∙◌, inl, inr, arith, get_or-set_other, get_or-set_same, ltb-true}
use Rattle.std.proofs.lemmas.Bool.{cases_eq, lt-ltb}
use Rattle.tree_queue.specs.Order.{IsTree, SameWait, IsRising, IsSinking, IsAhead}
use Rattle.subject.specs.Charges.{Laws}
use Rattle.subject.specs.Problems.{kind_of}
use Rattle.subject.specs.declared.charge.Charge.{Ghosts as ChargeGhosts}
use Rattle.tree_queue.specs.declared.layout.Layout.{Ghosts as LayoutGhosts}
use Rattle.tree_queue.specs.declared.queue.TreeQueue.{TreeQueue}
use Rattle.tree_queue.specs.Rows.{charges, positions}
use Rattle.tree_queue.specs.Queues.{row_count, what_waits, rank, IsInOrder, IsRisingAt, IsSinkingAt, IsCharged, SameWaiting}
use lib.ListN.{length-map}
use Rattle.subject.specs.Queues.{IsPut}
use Rattle.tree_queue.proofs.Changes.{put}
use Rattle.tree_queue.proofs.Ordered.{IsOrdered, columns_of}
use Rattle.tree_queue.proofs.Ranks.{IsRank, ranks}

module _ {C : Type 0} {up down : ℕ → ℕ} (t : IsTree up down) {rank : C → C → Bool} (laws : IsRank rank)
    {n len cell : ℕ} {ch : List C} (x : C) {old : C} {cs ps : List ℕ}
    (o : IsOrdered up rank n ch cs ps len) (lch : length ch ≡ n) (hc : cell < n) (w : get_or ps cell 0 < len) (hv : (d : C) → old ≡ get_or ch cell d) where
  apart : (k : ℕ) → k < len → k ≢ get_or ps cell 0 → get_or cs k 0 ≢ cell
  apart k h ne q = ne (sym (o.placement.there k (omega (arith, o.len_in_rows))) ∙ ap (λ m. get_or ps m 0) q)

  charge_else : (k : ℕ) (d : C) → k < len → k ≢ get_or ps cell 0 → get_or (set ch cell x) (get_or cs k 0) d ≡ get_or ch (get_or cs k 0) d
  charge_else k d h ne = get_or-set_other ch cell (get_or cs k 0) x d (apart k h ne)

  charge_at : (d : C) → get_or (set ch cell x) (get_or cs (get_or ps cell 0) 0) d ≡ x
  charge_at d = ap (λ m. get_or (set ch cell x) m d) (o.placement.back cell hc) ∙ get_or-set_same ch cell x d (omega arith)

  old_at : (d : C) → get_or ch (get_or cs (get_or ps cell 0) 0) d ≡ old
  old_at d = ap (λ m. get_or ch m d) (o.placement.back cell hc) ∙ sym (hv d)

  over : (k : ℕ) → 0 < k → k < len → 0 < get_or ps cell 0 → up k ≡ get_or ps cell 0 → IsAhead rank (set ch cell x) (get_or cs (up (get_or ps cell 0)) 0) (get_or cs k 0)
  over k h b z q d =
      let l1 = t.earlier k h in
      let l2 = t.earlier (get_or ps cell 0) z in
      let above = o.arranged (get_or ps cell 0) z w d in
      let below = o.arranged k h b d in
      let below' : rank (get_or ch (get_or cs (get_or ps cell 0) 0) d) (get_or ch (get_or cs k 0) d) ≡ true = cc in
      let both = laws.transitive _ _ _ above below' in
      let s = charge_else k d b (λ e. omega arith) in
      let v = charge_else (up (get_or ps cell 0)) d (omega arith) (λ e. omega arith) in
      cc

  higher : rank x old ≡ true → IsRising up (IsAhead rank (set ch cell x)) cs len (get_or ps cell 0)
  higher less = record {
    others = λ k h b ne d.
        let u = t.earlier k h in
        let s = charge_else k d b ne in
        let r = o.arranged k h b d in
        elim (cases_eq (up k) (get_or ps cell 0)) [
          | inl q ↦
              let a = charge_at d in
              let v = old_at d in
              let r' : rank old (get_or ch (get_or cs k 0) d) ≡ true = cc in
              let both = laws.transitive _ _ _ less r' in
              cc
          | inr np ↦ let v = charge_else (up k) d (omega arith) np in cc
        ];
    across = over;
  }

  lower : rank old x ≡ true → IsSinking up (IsAhead rank (set ch cell x)) cs len (get_or ps cell 0)
  lower more = record {
    others = λ k h b np d.
        let u = t.earlier k h in
        let v = charge_else (up k) d (omega arith) np in
        let r = o.arranged k h b d in
        elim (cases_eq k (get_or ps cell 0)) [
          | inl q ↦
              let a = charge_at d in
              let y = old_at d in
              let r' : rank (get_or ch (get_or cs (up k) 0) d) old ≡ true = cc in
              let both = laws.transitive _ _ _ r' more in
              cc
          | inr ne ↦ let s = charge_else k d b ne in cc
        ];
    across = over;
  }

module _ {C L : Type 0} (l : LayoutGhosts L) (c : ChargeGhosts C) (t : IsTree l.parent l.first_child) (laws : Laws (kind_of c)) {q q' : TreeQueue C L} {cell at : ℕ} {x old : C}
    (o : IsInOrder l c q) (hc : cell < row_count q) (w : get_or (positions q.rows.now) cell 0 < q.len) (s : IsCharged q q' cell x)
    (place : at ≡ get_or (positions q.rows.now) cell 0) (before : (d : C) → old ≡ get_or (charges q.rows.now) cell d) where
  pub rises : rank l c x old ≡ true → IsRisingAt l c q' at
  rises less = rw (s.same_cells, s.written, s.len, place) (higher t (ranks laws l.highest_on_top) x (columns_of l c q o) (length-map q.rows.now (λ r. r.charge)) hc w before less)

  pub sinks : rank l c x old ≡ false → IsSinkingAt l c q' at
  sinks more =
      let r = ranks laws l.highest_on_top in
      rw (s.same_cells, s.written, s.len, place) (lower t r x (columns_of l c q o) (length-map q.rows.now (λ r. r.charge)) hc w before (r.total _ _ more))

-- it waits with the new charge, and the same cells wait as before
pub recharged : {C L : Type 0} {q q' q'' : TreeQueue C L} {cell : ℕ} {x : C} → cell < row_count q → get_or (positions q.rows.now) cell 0 < q.len
    → IsCharged q q' cell x → SameWaiting q' q'' → IsPut (what_waits q) (what_waits q'') cell x
recharged {q = q} {q'' = q''} {cell = cell} {x = x} hc w s u =
    let ch = charges q.rows.now in
    let ps = positions q.rows.now in
    let last = positions q''.rows.now in
    let same : SameWait q.len ps last = rw (← s.len, ← s.same_positions) u.wait in
    rw (u.rows.len ∙ s.len, u.rows.same_charges ∙ s.written)
    (put (row_count q) cell ch (length-map q.rows.now (λ r. r.charge)) ps q.len last q.len (λ k h ne. same k) x hc (ltb-true _ _ (same cell ∙ lt-ltb _ q.len w)))

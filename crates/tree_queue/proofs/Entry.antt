-- A cell that does not wait goes to the position behind those that wait: it alone begins to wait, and the others are
-- arranged as they were, since none of them moves. Before all, cells at the positions of their own numbers are placed.
use Rattle.std.proofs.Common.{◌≡◌, ℕ, ◌+◌, ◌<◌, ◌≤◌, Bool, true, ltb, ◌≢◌, List, map, length, get_or, set, sym, ap, ◌∙◌, inl, inr, arith, get_or-set_other}
use Rattle.std.proofs.lemmas.Bool.{cases_eq, cases_lt, le-ltb}
use Rattle.std.proofs.lemmas.List.{map-set}
use Rattle.std.proofs.lemmas.List.Edits.{fill_by_more}
use Rattle.std.proofs.Math.Seq.{map-set_same}
use lib.ListN.{length-map}
use Rattle.tree_queue.specs.Order.{IsTree, IsPlacement, IsOwnPlacement, IsExchange, SameWait, IsRising, IsAhead}
use Rattle.subject.specs.declared.charge.Charge.{Ghosts as ChargeGhosts}
use Rattle.tree_queue.specs.declared.layout.Layout.{Ghosts as LayoutGhosts}
use Rattle.tree_queue.specs.declared.queue.TreeQueue.{TreeQueue}
use Rattle.tree_queue.specs.Rows.{charges, cells, positions}
use Rattle.tree_queue.specs.Queues.{row_count, waits_of, what_waits, MayBeAbove, IsInOrder, IsCharged, IsExchanged, SameCharges}
use Rattle.subject.specs.Queues.{IsPut}
use Rattle.tree_queue.proofs.Changes.{OthersStay, put}
use Rattle.tree_queue.proofs.Ordered.{IsOrdered, columns_of}

pub own_placement : (n : ℕ) (cs ps : List ℕ) → length cs ≡ n → length ps ≡ n → IsOwnPlacement n cs ps → IsPlacement n cs ps
own_placement n cs ps lc lp own = record {
  cell_count = lc;
  position_count = lp;
  cell_in = λ k h. let e = own.cell k h in omega arith;
  there = λ k h. ap (λ m. get_or ps m 0) (own.cell k h) ∙ own.position k h;
  position_in = λ k h. let e = own.position k h in omega arith;
  back = λ k h. ap (λ m. get_or cs m 0) (own.position k h) ∙ own.cell k h;
}

-- one more row: a column that holds its own numbers before `i` does so at `i` too
pub one_more : {A : Type 0} (f : A → ℕ) (rows : List A) (i : ℕ) (s : A) → i < length rows → f s ≡ i → ((k : ℕ) → k < i → get_or (map f rows) k 0 ≡ k) → (k : ℕ) → k < i + 1
    → get_or (map f (set rows i s)) k 0 ≡ k
one_more f rows i s h is below k b =
    ap (λ xs. get_or xs k 0) (map-set f rows i s ∙ ap (set (map f rows) i) is)
    ∙ fill_by_more (λ m. m) (map f rows) i 0 (omega (arith, length-map rows f)) below k b

pub ruleset own_numbers = (one_more, own_placement, map-set_same)

same_below : (a b : ℕ) → a ≢ b → ltb a (b + 1) ≡ ltb a b
same_below a b ne = grind (arith, cases_lt a b)

module _ {C : Type 0} {up down : ℕ → ℕ} (t : IsTree up down) {rank : C → C → Bool} {n len cell : ℕ} {ch : List C} (x : C) {cs ps cs' ps' : List ℕ}
    (o : IsOrdered up rank n ch cs ps len) (hc : cell < n) (apart : len ≤ get_or ps cell 0) (e : IsExchange cs ps cs' ps' (get_or ps cell 0) len) where
  pub room : len < n
  room = let h = o.placement.position_in cell hc in omega arith

  -- another cell is before `len`
  another : (k : ℕ) → k < len → get_or cs k 0 ≢ cell
  another k h q = let s = o.placement.there k (omega (arith, o.len_in_rows)) in let f : get_or ps (get_or cs k 0) 0 ≡ get_or ps cell 0 = ap (λ m. get_or ps m 0) q in omega arith

  same_cell : (k : ℕ) → k < len → get_or cs' k 0 ≡ get_or cs k 0
  same_cell k h = e.else k (λ q. omega arith) (λ q. omega arith)

  same_charge : (k : ℕ) (d : C) → k < len → get_or (set ch cell x) (get_or cs' k 0) d ≡ get_or ch (get_or cs k 0) d
  same_charge k d h = ap (λ m. get_or (set ch cell x) m d) (same_cell k h) ∙ get_or-set_other ch cell (get_or cs k 0) x d (another k h)

  rising : IsRising up (IsAhead rank (set ch cell x)) cs' (len + 1) len
  rising = record {
    others = λ k h b ne d.
        let u = t.earlier k h in
        let s = same_charge k d (omega arith) in
        let v = same_charge (up k) d (omega arith) in
        let r = o.arranged k h (omega arith) d in
        cc;
    across = λ k h b hl q. let u = t.earlier k h in absurd (omega arith);
  }

  at_cell : get_or ps' cell 0 ≡ len
  at_cell = ap (λ m. get_or ps' m 0) (sym (o.placement.back cell hc)) ∙ e.pos_i

  others_stay : OthersStay n cell ps len ps' (len + 1)
  others_stay k h ne =
      let b = o.placement.back cell hc in
      elim (cases_eq k (get_or cs len 0)) [
        | inl q ↦
            let f : get_or ps' k 0 ≡ get_or ps cell 0 = ap (λ m. get_or ps' m 0) q ∙ e.pos_j in
            let g : get_or ps k 0 ≡ len = ap (λ m. get_or ps m 0) q ∙ o.placement.there len room in
            let apart' : get_or ps cell 0 ≢ len = λ z. ne (q ∙ ap (λ m. get_or cs m 0) (sym z) ∙ b) in
            le-ltb _ (len + 1) (omega arith) ∙ sym (le-ltb _ len (omega arith))
        | inr nl ↦
            let f = e.pos_else k (λ z. ne (z ∙ b)) nl in
            let apart' : get_or ps k 0 ≢ len = λ z. nl (sym (o.placement.back k h) ∙ ap (λ m. get_or cs m 0) z) in
            ap (λ m. ltb m (len + 1)) f ∙ same_below (get_or ps k 0) len apart'
      ]

  entered : (ps'' : List ℕ) → length ch ≡ n → SameWait (len + 1) ps' ps'' → IsPut (waits_of ch ps len) (waits_of (set ch cell x) ps'' (len + 1)) cell x
  entered ps'' lch same =
      put n cell ch lch ps len ps'' (len + 1) (λ k h ne. same k ∙ others_stay k h ne) x hc
      (elim (cases_lt (get_or ps'' cell 0) (len + 1)) [
        | inl b ↦ b
        | inr g ↦
            let s = same cell in
            let u = le-ltb _ (len + 1) g in
            let v : ltb (get_or ps' cell 0) (len + 1) ≡ true = yes in
            let z : ◌≡◌ {A = ℕ} 0 1 = cc in
            absurd (omega arith)
      ])
    where
      yes : ltb (get_or ps' cell 0) (len + 1) ≡ true
      yes = let a = at_cell in grind arith

-- an exchange of columns and positions that equal others is one of those
exchange_of : {cs ps cs₀ ps₀ cs' ps' : List ℕ} {a b j : ℕ} → cs ≡ cs₀ → ps ≡ ps₀ → a ≡ b → IsExchange cs ps cs' ps' a j → IsExchange cs₀ ps₀ cs' ps' b j
exchange_of p q r x = rw (← p, ← q, ← r) x

module _ {C L : Type 0} (l : LayoutGhosts L) (c : ChargeGhosts C) (t : IsTree l.parent l.first_child) {q q' q'' : TreeQueue C L} {cell at : ℕ} {x : C}
    (o : IsInOrder l c q) (hc : cell < row_count q) (apart : q.len ≤ get_or (positions q.rows.now) cell 0) (s : IsCharged q q' cell x)
    (place : at ≡ get_or (positions q.rows.now) cell 0) (same : SameCharges q' q'') (e : IsExchanged q' q'' at q.len) where
  pub rises : IsRising l.parent (MayBeAbove l c q'') (cells q''.rows.now) (q.len + 1) q.len
  rises = rw (same.same_charges, s.written) (rising t x (columns_of l c q o) hc apart (exchange_of s.same_cells s.same_positions place e))

  pub waits : (last : TreeQueue C L) → last.len ≡ q.len + 1 → charges last.rows.now ≡ charges q''.rows.now
      → SameWait (q.len + 1) (positions q''.rows.now) (positions last.rows.now) → IsPut (what_waits q) (what_waits last) cell x
  waits last len same_charges wait =
      let x' = exchange_of s.same_cells s.same_positions place e in
      rw (len, same_charges, same.same_charges, s.written)
      (entered t x (columns_of l c q o) hc apart x' (positions last.rows.now) (length-map q.rows.now (λ r. r.charge)) wait)

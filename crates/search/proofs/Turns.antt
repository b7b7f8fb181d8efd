-- The steps of the search over rows and queue: an offer, a take and the beginning keep what the search keeps of its state,
-- and the links and step counts in the rows. Links survive since they lead to settled rows, which are never written again;
-- and a waiting row is one that is not settled yet, so the settled ones are fewer than all.
use Rattle.std.proofs.Common.{◌≡◌, ℕ, zero, suc, ◌+◌, ◌<◌, ◌≤◌, true, ◌≢◌, ◌⊎◌, List, [], ◌∷◌, length, set, Some, None, Option, sym, refl, ap, ◌∙◌, subst, inl, inr, arith}
use Rattle.std.specs.List.{slice_get}
use Rattle.std.proofs.lemmas.Bool.{cases_eq}
use Rattle.subject.specs.Queues.{IsPut, IsTaken}
use Rattle.search.specs.Cells.{place_of, loss_of}
use Rattle.subject.specs.Charges.{Laws}
use Rattle.search.specs.Search.{ExpandState, SearchState, IsCovered, CoverStays}
use Rattle.search.specs.Rows.{settled_as, waits_as, settled_row, waits_row, reached_row, reached_in, done_in, one_if, settled_count, IsNext, IsLinked, Bookkeeping, TurnState, OfferOutcome, SettleOutcome, EndTaken}
use Rattle.search.specs.Columns.{reached_as}
use Rattle.search.specs.declared.cell.Cell.{Cell}
use Rattle.search.specs.declared.cell.Cell.TheVariants.{Unseen, Waiting, Settled}
use Rattle.search.specs.declared.cell.Reached.{Reached}
use Rattle.search.proofs.Covers.{offer_keeps, offer_covers, offer_covered, take_keeps, lowest, start_holds}
use Rattle.search.proofs.Tables.{nth_set_same, nth_set_other}
use Rattle.subject.specs.Problems.{Problem}
use mathlib.Core.Path.{fun_ext}

pub some_same : {X : Type 0} {a b : X} → Some a ≡ Some b → a ≡ b
some_same e = cc

pub none_some : {X : Type 0} {o : Option X} {a : X} → o ≡ None → o ≡ Some a → ⊥
none_some e f = let z : ◌≡◌ {A = ℕ} 0 1 = cc in omega arith

pub waiting_settled : {C : Type 0} {r s : Reached C} → Waiting r ≡ Settled s → ⊥
waiting_settled e = let z : ◌≡◌ {A = ℕ} 0 1 = ap one_if e in omega arith

-- a settled row is done with its charge
pub done_row : {C : Type 0} (rows : List (Cell C)) (x : ℕ) (r : Reached C) → slice_get rows x ≡ Some (Settled r) → done_in rows x ≡ Some r.charge
unfolding done_in
done_row rows x r e = ap settled_row e

-- where the rows say that a cell waits, its row is a waiting one
pub row_waits : {C : Type 0} (rows : List (Cell C)) (x : ℕ) (c : C) → waits_row (slice_get rows x) ≡ Some c → (r : Reached C) × (slice_get rows x ≡ Some (Waiting r)) × (r.charge ≡ c)
row_waits {C} rows x c w = go (slice_get rows x) w
  where
    go : (o : Option (Cell C)) → waits_row o ≡ Some c → (r : Reached C) × (o ≡ Some (Waiting r)) × (r.charge ≡ c)
    go None e = absurd (let z : ◌≡◌ {A = ℕ} 0 1 = cc in omega arith)
    go (Some Unseen) e = absurd (let z : ◌≡◌ {A = ℕ} 0 1 = cc in omega arith)
    go (Some (Waiting r)) e = (r, refl, some_same e)
    go (Some (Settled r)) e = absurd (let z : ◌≡◌ {A = ℕ} 0 1 = cc in omega arith)

not_one : {C : Type 0} (c : Cell C) → settled_as c ≡ None → one_if c ≡ 0
not_one Unseen e = refl
not_one (Waiting r) e = refl
not_one (Settled r) e = absurd (let z : ◌≡◌ {A = ℕ} 0 1 = cc in omega arith)

pub count_same : {C : Type 0} (rows : List (Cell C)) (at : ℕ) (new : Reached C) → done_in rows at ≡ None → settled_count (set rows at (Waiting new)) ≡ settled_count rows
unfolding done_in
count_same [] at new e = refl
count_same (r ∷ rs) zero new e = let n = not_one r e in omega arith
count_same (r ∷ rs) (suc at) new e = ap (λ n. one_if r + n) (count_same rs at new e)

pub count_more : {C : Type 0} (rows : List (Cell C)) (at : ℕ) (old new : Reached C) → slice_get rows at ≡ Some (Waiting old) → settled_count (set rows at (Settled new)) ≡ settled_count rows + 1
count_more [] at old new e = absurd (let z : ◌≡◌ {A = ℕ} 0 1 = cc in omega arith)
count_more (r ∷ rs) zero old new e = let b : one_if r ≡ 0 = ap one_if (some_same e) in omega arith
count_more (r ∷ rs) (suc at) old new e = let h = count_more rs at old new e in omega arith

one_most : {C : Type 0} (c : Cell C) → one_if c ≤ 1
one_most Unseen = omega arith
one_most (Waiting r) = omega arith
one_most (Settled r) = omega arith

pub count_most : {C : Type 0} (rows : List (Cell C)) → settled_count rows ≤ length rows
count_most [] = omega arith
count_most (r ∷ rs) = let h = count_most rs in let o = one_most r in omega arith

-- a link survives where the settled rows stay, since it leads to one of them
linked_still : {C : Type 0} (P : Problem C) (rows rows' : List (Cell C)) → ((z : ℕ) (r : Reached C) → slice_get rows z ≡ Some (Settled r) → slice_get rows' z ≡ Some (Settled r))
    → (z : ℕ) (r : Reached C) → IsLinked P rows z r → IsLinked P rows' z r
linked_still P rows rows' stays z r l = elim l [
  | inl f ↦ inl f
  | inr n ↦ inr (record {
    by = n.by;
    link = n.link;
    before = n.before;
    row = stays n.by.from n.before n.row;
    over = n.over;
    goes = n.goes;
    place = n.place;
    loss = n.loss;
    charge = n.charge;
    steps = n.steps;
  })
]

-- since a waiting row is not settled, fewer rows are settled than there are
pub count_short : {C : Type 0} (rows : List (Cell C)) (at : ℕ) (r : Reached C) → slice_get rows at ≡ Some (Waiting r) → settled_count rows < length rows
count_short [] at r e = absurd (let z : ◌≡◌ {A = ℕ} 0 1 = cc in omega arith)
count_short (q ∷ qs) zero r e =
    let h = count_most qs in
    let b : one_if q ≡ 0 = ap one_if (some_same e) in
    omega arith
count_short (q ∷ qs) (suc at) r e = let h = count_short qs at r e in let o = one_most q in omega arith

module _ {C : Type 0} (P : Problem C) (laws : Laws P.kind) (rows rows' : List (Cell C)) (waits waits' : ℕ → Option C) (at : ℕ) (new : Reached C)
    (inside : at < length rows) (o : OfferOutcome P.kind rows rows' waits waits' at new) where
  pub offer_done : (z : ℕ) → done_in rows' z ≡ done_in rows z
  unfolding done_in
  offer_done z = elim o.change [
    | inl e ↦ ap (λ rs. settled_row (slice_get rs z)) e
    | inr p ↦ ap (λ rs. settled_row (slice_get rs z)) p.0 ∙ elim (cases_eq z at) [
      | inl e ↦ ap (λ y. settled_row (slice_get (set rows at (Waiting new)) y)) e ∙ ap settled_row (nth_set_same rows at (Waiting new) inside) ∙ sym p.1 ∙ ap (λ y. settled_row (slice_get rows y)) (sym e)
      | inr ne ↦ ap settled_row (nth_set_other rows at z (Waiting new) ne)
    ]
  ]

  pub offer_count : settled_count rows' ≡ settled_count rows
  offer_count = elim o.change [
    | inl e ↦ ap settled_count e
    | inr p ↦ ap settled_count p.0 ∙ count_same rows at new p.1
  ]

  -- an offer leaves settled rows as they are
  pub offer_row : (z : ℕ) (r : Reached C) → slice_get rows z ≡ Some (Settled r) → slice_get rows' z ≡ Some (Settled r)
  offer_row z r e = elim o.change [
    | inl q ↦ ap (λ rs. slice_get rs z) q ∙ e
    | inr p ↦ ap (λ rs. slice_get rs z) p.0 ∙ nth_set_other rows at z (Waiting new) (λ q. none_some p.1 (ap (done_in rows) (sym q) ∙ done_row rows z r e)) ∙ e
  ]

  linked_kept : (z : ℕ) (r : Reached C) → IsLinked P rows z r → IsLinked P rows' z r
  linked_kept = linked_still P rows rows' offer_row

  -- each cell reached after the offer was reached so before, or is the one offered
  was : (z : ℕ) (r : Reached C) → reached_in rows' z ≡ Some r → (reached_in rows z ≡ Some r) ⊎ ((z ≡ at) × (r ≡ new))
  was z r e = elim o.change [
    | inl q ↦ inl (ap (λ rs. reached_in rs z) (sym q) ∙ e)
    | inr p ↦ elim (cases_eq z at) [
      | inl a ↦ inr (a, some_same (sym e ∙ ap (λ rs. reached_in rs z) p.0 ∙ ap (reached_in (set rows at (Waiting new))) a ∙ ap reached_row (nth_set_same rows at (Waiting new) inside)))
      | inr ne ↦ inl (ap reached_row (sym (nth_set_other rows at z (Waiting new) ne)) ∙ ap (λ rs. reached_in rs z) (sym p.0) ∙ e)
    ]
  ]

  was_settled : (z : ℕ) (r : Reached C) → slice_get rows' z ≡ Some (Settled r) → slice_get rows z ≡ Some (Settled r)
  was_settled z r e = elim o.change [
    | inl q ↦ ap (λ rs. slice_get rs z) (sym q) ∙ e
    | inr p ↦ elim (cases_eq z at) [
      | inl a ↦ absurd (waiting_settled (some_same (sym (nth_set_same rows at (Waiting new) inside) ∙ ap (slice_get (set rows at (Waiting new))) (sym a) ∙ ap (λ rs. slice_get rs z) (sym p.0) ∙ e)))
      | inr ne ↦ sym (nth_set_other rows at z (Waiting new) ne) ∙ ap (λ rs. slice_get rs z) (sym p.0) ∙ e
    ]
  ]

  module _ (b : Bookkeeping P rows waits) (link : IsNext P rows at new) (few : new.steps ≤ settled_count rows) where
    pub offer_books : Bookkeeping P rows' waits'
    offer_books = record {
      agree = o.agree;
      linked = λ z r e. elim (was z r e) [
        | inl q ↦ linked_kept z r (b.linked z r q)
        | inr p ↦ rw (p.0, p.1) (linked_kept at new (inr link))
      ];
      few = λ z r e. elim (was z r e) [
        | inl q ↦ (let f = b.few z r q in let c = offer_count in omega arith)
        | inr p ↦ (let c = offer_count in let v : r.steps ≡ new.steps = ap (λ (q : Reached C). q.steps) p.1 in omega arith)
      ];
      fewer = λ z r e. (let f = b.fewer z r (was_settled z r e) in let c = offer_count in omega arith);
    }

  pub offer_turn : (x : ℕ) (here : Reached C) → TurnState P rows waits x here → P.kind.no_more here.charge new.charge ≡ true → IsNext P rows at new → new.steps ≤ settled_count rows → TurnState P rows' waits' x here
  offer_turn x here turn up link few = record {
    expanding = subst (λ d. ExpandState P d waits' x here.charge) (sym (fun_ext offer_done)) (offer_keeps P laws (done_in rows) waits waits' at new.charge o.entered x here.charge up turn.expanding);
    books = offer_books turn.books link few;
    row = offer_row x here turn.row;
  }

  pub offer_covered_at : (p l : ℕ) → place_of P at ≡ p → loss_of P at ≡ l → IsCovered P (done_in rows') waits' p l new.charge
  offer_covered_at p l a b = subst (λ d. IsCovered P d waits' p l new.charge) (sym (fun_ext offer_done)) (offer_covers P laws (done_in rows) waits waits' at new.charge o.entered p l a b)

  pub offer_covered_on : CoverStays P (done_in rows) waits (done_in rows') waits'
  offer_covered_on p l sum h = subst (λ d. IsCovered P d waits' p l sum) (sym (fun_ext offer_done)) (offer_covered P laws (done_in rows) waits waits' at new.charge o.entered h)

module _ {C : Type 0} (P : Problem C) (laws : Laws P.kind) (rows rows' : List (Cell C)) (waits waits' : ℕ → Option C) (at : ℕ) (c : C) (here : Reached C)
    (inside : at < length rows) (b : Bookkeeping P rows waits) (taken : IsTaken P.kind.no_more waits waits' at c) (s : SettleOutcome rows rows' at here) where
  was_waiting : (slice_get rows at ≡ Some (Waiting here)) × (here.charge ≡ c)
  was_waiting =
      let w = row_waits rows at c (sym (b.agree at) ∙ taken.waited) in
      let e : w.0 ≡ here = some_same (sym (ap reached_row w.1) ∙ s.was) in
      (w.1 ∙ ap (λ r. Some (Waiting r)) e, ap (λ (r : Reached C). r.charge) (sym e) ∙ w.2)

  here_row : slice_get rows' at ≡ Some (Settled here)
  here_row = ap (λ rs. slice_get rs at) s.written ∙ nth_set_same rows at (Settled here) inside

  other_row : (z : ℕ) → z ≢ at → slice_get rows' z ≡ slice_get rows z
  other_row z ne = ap (λ rs. slice_get rs z) s.written ∙ nth_set_other rows at z (Settled here) ne

  pub settle_count : settled_count rows' ≡ settled_count rows + 1
  settle_count = ap settled_count s.written ∙ count_more rows at here here was_waiting.0

  settle_put : IsPut (done_in rows) (done_in rows') at c
  unfolding done_in
  settle_put = record {
    here = done_row rows' at here here_row ∙ ap Some was_waiting.1;
    others = λ z ne. ap settled_row (other_row z ne);
  }

  fresh : done_in rows at ≡ None
  unfolding done_in
  fresh = ap settled_row was_waiting.0

  settled_row_stays : (z : ℕ) (r : Reached C) → slice_get rows z ≡ Some (Settled r) → slice_get rows' z ≡ Some (Settled r)
  settled_row_stays z r e = other_row z (λ a. none_some fresh (ap (done_in rows) (sym a) ∙ done_row rows z r e)) ∙ e

  kept_linked : (z : ℕ) (r : Reached C) → IsLinked P rows z r → IsLinked P rows' z r
  kept_linked = linked_still P rows rows' settled_row_stays

  -- settling a cell changes nothing of how any cell was reached
  reached_same : (z : ℕ) → reached_in rows z ≡ reached_in rows' z
  reached_same z = elim (cases_eq z at) [
    | inl a ↦ ap (reached_in rows) a ∙ s.was ∙ sym (ap reached_row here_row) ∙ ap (reached_in rows') (sym a)
    | inr ne ↦ ap reached_row (sym (other_row z ne))
  ]

  settle_books : Bookkeeping P rows' waits'
  settle_books = record {
    agree = λ x. elim (cases_eq x at) [
      | inl e ↦ ap waits' e ∙ taken.gone ∙ sym (ap waits_row here_row) ∙ ap (λ y. waits_row (slice_get rows' y)) (sym e)
      | inr ne ↦ taken.others x ne ∙ b.agree x ∙ ap waits_row (sym (other_row x ne))
    ];
    linked = λ z r e. kept_linked z r (b.linked z r (reached_same z ∙ e));
    few = λ z r e. (let f = b.few z r (reached_same z ∙ e) in let n = settle_count in omega arith);
    fewer = λ z r e. (let f = b.few z r (reached_same z ∙ ap reached_row e) in let n = settle_count in omega arith);
  }

  pub settle_turn : SearchState P (done_in rows) waits → place_of P at ≢ P.request.end → TurnState P rows' waits' at here
  settle_turn inv ne = record {
    expanding = subst (λ d. ExpandState P (done_in rows') waits' at d) (sym was_waiting.1) (take_keeps P laws (done_in rows) waits (done_in rows') waits' at c inv fresh taken settle_put ne);
    books = settle_books;
    row = here_row;
  }

pub nth_inside : {X : Type 0} (xs : List X) (i : ℕ) (x : X) → slice_get xs i ≡ Some x → i < length xs
nth_inside [] i x e = absurd (let z : ◌≡◌ {A = ℕ} 0 1 = cc in omega arith)
nth_inside (y ∷ ys) zero x e = omega arith
nth_inside (y ∷ ys) (suc i) x e = let h = nth_inside ys i x e in omega arith

-- a taken cell: it has a waiting row, and where it is one of the end the search has found its run
module _ {C : Type 0} (P : Problem C) (laws : Laws P.kind) (rows : List (Cell C)) (waits waits' : ℕ → Option C) (at : ℕ) (c : C)
    (b : Bookkeeping P rows waits) (taken : IsTaken P.kind.no_more waits waits' at c) where
  pub taken_row : (r : Reached C) × (slice_get rows at ≡ Some (Waiting r)) × (r.charge ≡ c)
  taken_row = row_waits rows at c (sym (b.agree at) ∙ taken.waited)

  pub taken_inside : at < length rows
  taken_inside = nth_inside rows at (Waiting taken_row.0) taken_row.1

  pub taken_reached : reached_in rows at ≡ Some taken_row.0
  taken_reached = ap reached_row taken_row.1

  pub taken_short : settled_count rows < length rows
  taken_short = count_short rows at taken_row.0 taken_row.1

  pub taken_found : SearchState P (done_in rows) waits → place_of P at ≡ P.request.end → EndTaken P rows at
  taken_found inv e =
      let w = taken_row in
      record {
        last = w.0;
        row = taken_reached;
        end = e;
        lowest = rw w.2 (lowest P laws (done_in rows) waits c inv taken.least);
        linked = b.linked;
        few = (let f = b.few at w.0 taken_reached in let s = taken_short in omega arith);
      }

-- the beginning: one row waits, and no other was reached
module _ {C : Type 0} (P : Problem C) (laws : Laws P.kind) (rows rows' : List (Cell C)) (empty waits : ℕ → Option C) (at : ℕ) (new : Reached C)
    (inside : at < length rows) (blank : (x : ℕ) (c : Cell C) → slice_get rows x ≡ Some c → c ≡ Unseen) (written : rows' ≡ set rows at (Waiting new)) (none : (x : ℕ) → empty x ≡ None)
    (put : IsPut empty waits at P.kind.nothing) (charge : new.charge ≡ P.kind.nothing) (link : new.link ≡ None) (steps : new.steps ≡ 0) (place : place_of P at ≡ P.request.start) (loss : loss_of P at ≡ 0) where
  new_row : slice_get rows' at ≡ Some (Waiting new)
  new_row = ap (λ rs. slice_get rs at) written ∙ nth_set_same rows at (Waiting new) inside

  unseen_rows : (o : Option (Cell C)) → ((c : Cell C) → o ≡ Some c → c ≡ Unseen) → (settled_row o ≡ None) × (waits_row o ≡ None) × (reached_row o ≡ None)
  unseen_rows None h = (refl, refl, refl)
  unseen_rows (Some c) h = (ap settled_as (h c refl), ap waits_as (h c refl), ap reached_as (h c refl))

  other_rows : (x : ℕ) → x ≢ at → (settled_row (slice_get rows' x) ≡ None) × (waits_row (slice_get rows' x) ≡ None) × (reached_row (slice_get rows' x) ≡ None)
  other_rows x ne = unseen_rows (slice_get rows' x) (λ c e. blank x c (sym (nth_set_other rows at x (Waiting new) ne) ∙ ap (λ rs. slice_get rs x) (sym written) ∙ e))

  none_done : (x : ℕ) → done_in rows' x ≡ None
  unfolding done_in
  none_done x = elim (cases_eq x at) [
    | inl a ↦ ap (λ y. settled_row (slice_get rows' y)) a ∙ ap settled_row new_row
    | inr ne ↦ (other_rows x ne).0
  ]

  -- only the start's cell was reached
  only_new : (x : ℕ) (r : Reached C) → reached_in rows' x ≡ Some r → (x ≡ at) × (r ≡ new)
  only_new x r e = elim (cases_eq x at) [
    | inl a ↦ (a, some_same (sym e ∙ ap (reached_in rows') a ∙ ap reached_row new_row))
    | inr ne ↦ absurd (none_some (other_rows x ne).2 e)
  ]

  pub start_books : Bookkeeping P rows' waits
  start_books = record {
    agree = λ x. elim (cases_eq x at) [
      | inl a ↦ ap waits a ∙ put.here ∙ ap Some (sym charge) ∙ sym (ap waits_row new_row) ∙ ap (λ y. waits_row (slice_get rows' y)) (sym a)
      | inr ne ↦ put.others x ne ∙ none x ∙ sym (other_rows x ne).1
    ];
    linked = λ x r e. (
        let p = only_new x r e in
        inl (record { place = ap (place_of P) p.0 ∙ place; loss = ap (loss_of P) p.0 ∙ loss; link = ap (λ (z : Reached C). z.link) p.1 ∙ link; steps = ap (λ (z : Reached C). z.steps) p.1 ∙ steps; charge = ap (λ (z : Reached C). z.charge) p.1 ∙ charge }));
    few = λ x r e. (let a : r.steps ≡ 0 = ap (λ (z : Reached C). z.steps) (only_new x r e).1 ∙ steps in omega arith);
    fewer = λ x r e. absurd (none_some (none_done x) (done_row rows' x r e));
  }

  pub start_search : SearchState P (done_in rows') waits
  start_search = start_holds P laws (done_in rows') waits at none_done (record { here = put.here; others = λ x ne. put.others x ne ∙ none x }) place loss

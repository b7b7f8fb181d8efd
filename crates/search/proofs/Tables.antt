-- Rows, read and written: what one write does to each row and to each column, and what an offer to a cell leaves, whether
-- it is written or not. By induction over the rows, and by cases over the state of the row that is offered to.
use Rattle.std.proofs.Common.{◌≡◌, ℕ, zero, suc, ◌<◌, true, false, ◌≢◌, ◌⊎◌, List, [], ◌∷◌, ◌++◌, map, length, get_or, drop, replicate, set, Some, None, Option, sym, refl, ap, ◌∙◌, inl, inr, arith}
use Rattle.std.specs.List.{slice_get}
use Rattle.std.proofs.lemmas.Bool.{cases_eq, not-true, not-false}
use Rattle.std.proofs.lemmas.Grind.{common_steps}
use Rattle.std.proofs.lemmas.List.{get_or-map}
use Rattle.std.proofs.lemmas.Option.{gets}
use Rattle.subject.specs.Sites.{SiteMeaning}
use Rattle.subject.specs.Charges.{Kind, Laws}
use Rattle.subject.specs.Queues.{IsPut}
use Rattle.search.specs.Rows.{settled_as, waits_as, settled_row, waits_row, done_in, QueueAgrees, OfferOutcome, improves, RoomSuffices}
use Rattle.subject.specs.declared.queue.PriorityQueue.{Ghosts as QueueGhosts}
use Rattle.search.specs.Columns.{SameIndex, cells_of, heads_of, nexts_of, blank_row}
use Rattle.search.specs.Memories.{SameLenders}
use Rattle.search.specs.declared.memory.Memory.{Memory}
use Rattle.search.specs.Index.{IsIndexed}
use Rattle.search.specs.declared.cell.CellRow.{CellRow}
use Rattle.search.specs.declared.cell.Cell.{Cell}
use Rattle.search.specs.declared.cell.Cell.TheVariants.{Unseen, Waiting, Settled}
use Rattle.search.specs.declared.cell.Reached.{Reached}
use Rattle.search.proofs.Covers.{no_more-self}
use Rattle.subject.specs.Problems.{Problem}

pub nth_set_other : {X : Type 0} (xs : List X) (i k : ℕ) (a : X) → k ≢ i → slice_get (set xs i a) k ≡ slice_get xs k
nth_set_other xs i k a ne = grind (arith, common_steps, gets)

pub nth_set_same : {X : Type 0} (xs : List X) (i : ℕ) (a : X) → i < length xs → slice_get (set xs i a) i ≡ Some a
nth_set_same xs i a h = grind (arith, common_steps, gets)

module _ {C : Type 0} (k : Kind C) (laws : Laws k) (rows : List (Cell C)) (waits waits' : ℕ → Option C) (at : ℕ) (old : Cell C) (new : Reached C)
    (inside : at < length rows) (row : slice_get rows at ≡ Some old) (agree : QueueAgrees rows waits) where
  -- a row that the offer improves is not settled, and did not wait with a lower charge
  clear_of : (c : Cell C) → improves k c new.charge ≡ true → settled_as c ≡ None
  clear_of Unseen h = refl
  clear_of (Waiting r) h = refl
  clear_of (Settled r) h = absurd (let z : ◌≡◌ {A = ℕ} 0 1 = cc in omega arith)

  not_less : (c : Cell C) (e : C) → improves k c new.charge ≡ true → waits_as c ≡ Some e → k.no_more new.charge e ≡ true
  not_less Unseen e h w = absurd (let z : ◌≡◌ {A = ℕ} 0 1 = cc in omega arith)
  not_less (Waiting r) e h w =
      let de : r.charge ≡ e = cc in
      laws.total e new.charge (rw (← de) (not-true (k.no_more r.charge new.charge) h))
  not_less (Settled r) e h w = absurd (let z : ◌≡◌ {A = ℕ} 0 1 = cc in omega arith)

  pub offered_over : improves k old new.charge ≡ true → IsPut waits waits' at new.charge → OfferOutcome k rows (set rows at (Waiting new)) waits waits' at new
  unfolding done_in
  offered_over h put = record {
    entered = record {
      charge = new.charge;
      low = no_more-self k laws new.charge;
      held = inr put.here;
      from = λ e w. inl (let p = put.here in cc);
      better = λ e w. (new.charge, put.here, not_less old e h (sym (ap waits_row row) ∙ sym (agree at) ∙ w));
      others = put.others;
    };
    agree = λ x. elim (cases_eq x at) [
      | inl e ↦ ap waits' e ∙ put.here ∙ sym (ap waits_row (nth_set_same rows at (Waiting new) inside)) ∙ ap (λ y. waits_row (slice_get (set rows at (Waiting new)) y)) (sym e)
      | inr ne ↦ put.others x ne ∙ agree x ∙ ap waits_row (sym (nth_set_other rows at x (Waiting new) ne))
    ];
    change = inr (refl, ap settled_row row ∙ clear_of old h);
  }

  kept_as : (c : Cell C) → improves k c new.charge ≡ false → ((e : C) → settled_as c ≡ Some e → k.no_more e new.charge ≡ true) → (d : C) × (k.no_more d new.charge ≡ true) × ((settled_as c ≡ Some d) ⊎ (waits_as c ≡ Some d))
  kept_as Unseen h low = absurd (let z : ◌≡◌ {A = ℕ} 0 1 = cc in omega arith)
  kept_as (Waiting r) h low = (r.charge, not-false (k.no_more r.charge new.charge) h, inr refl)
  kept_as (Settled r) h low = (r.charge, low r.charge refl, inl refl)

  pub offered_none : improves k old new.charge ≡ false → ((e : C) → done_in rows at ≡ Some e → k.no_more e new.charge ≡ true) → OfferOutcome k rows rows waits waits at new
  unfolding done_in
  offered_none h low =
      let p = kept_as old h (λ e q. low e (ap settled_row row ∙ q)) in
      record {
        entered = record {
          charge = p.0;
          low = p.1;
          held = elim p.2 [ inl a ↦ inl (ap settled_row row ∙ a) | inr a ↦ inr (agree at ∙ ap waits_row row ∙ a) ];
          from = λ e w. inr w;
          better = λ e w. (e, w, no_more-self k laws e);
          others = λ z ne. refl;
        };
        agree = agree;
        change = inl refl;
      }

-- filling row after row
pub fill_step : {X : Type 0} (xs : List X) (i : ℕ) (y : X) → i < length xs → set (replicate i y ++ drop i xs) i y ≡ replicate (suc i) y ++ drop (suc i) xs
fill_step [] i y h = absurd (omega arith)
fill_step (x ∷ xs) zero y h = refl
fill_step (x ∷ xs) (suc i) y h = ap (λ zs. y ∷ zs) (fill_step xs i y (omega arith))

pub fill_end : {X : Type 0} (xs : List X) (y : X) → replicate (length xs) y ++ drop (length xs) xs ≡ replicate (length xs) y
fill_end [] y = refl
fill_end (x ∷ xs) y = ap (λ zs. y ∷ zs) (fill_end xs y)

-- in blank rows no cell was reached, and no way is in the index
pub blank_cells : {C : Type 0} (n x : ℕ) (c : Cell C) → slice_get (cells_of (replicate n (blank_row {C = C}))) x ≡ Some c → c ≡ Unseen
blank_cells zero x c e = absurd (let z : ◌≡◌ {A = ℕ} 0 1 = cc in omega arith)
blank_cells (suc n) zero c e = sym (let a : Unseen ≡ c = cc in a)
blank_cells (suc n) (suc x) c e = blank_cells n x c e

pub blank_heads : (C : Type 0) (n p : ℕ) → get_or (heads_of (replicate n (blank_row {C = C}))) p None ≡ None
blank_heads C zero p = refl
blank_heads C (suc n) zero = refl
blank_heads C (suc n) (suc p) = blank_heads C n p

-- an entry of a column is that field of the row
pub nth_column : {A B : Type 0} (f : A → B) (rows : List A) (i : ℕ) (d : A) → i < length rows → slice_get (map f rows) i ≡ Some (f (get_or rows i d))
nth_column f rows i d h = grind (arith, common_steps, gets)

pub same_lenders : {C Q : Type 0} {l : QueueGhosts Q C} {a b c : Memory C Q} → SameLenders l a b → SameLenders l b c → SameLenders l a c
same_lenders p q = record { cells = q.cells ∙ p.cells; queue = q.queue ∙ p.queue; run = q.run ∙ p.run; cell_count = q.cell_count ∙ p.cell_count; step_count = q.step_count ∙ p.step_count }

pub room_kept : {C : Type 0} (P : Problem C) (n n' many many' : ℕ) → n' ≡ n → many' ≡ many → RoomSuffices P n many → RoomSuffices P n' many'
room_kept P n n' many many' p q r = record { bound = r.bound; fits = omega (arith, r.fits); cells_suffice = omega (arith, r.cells_suffice); queue_suffices = omega (arith, r.queue_suffices) }

pub read_column : {A B : Type 0} (f : A → B) (rows : List A) (i : ℕ) (d : A) (e : B) → i < length rows → f (get_or rows i d) ≡ get_or (map f rows) i e
read_column f rows i d e h = sym (get_or-map f rows i d e h)

pub indexed_kept : {C : Type 0} (m : SiteMeaning C) (rows rows' : List (CellRow C)) (n n' : ℕ) → n ≡ n' → SameIndex rows rows' → IsIndexed m (heads_of rows) (nexts_of rows) n → IsIndexed m (heads_of rows') (nexts_of rows') n'
indexed_kept m rows rows' n n' e s ix = rw (s.heads, s.nexts, ← e) ix

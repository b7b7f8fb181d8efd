-- The index of the ways: entering one way after the other keeps it right, since the entered way is the largest so far; and
-- walking it down from a place passes every way that leaves the place, since none leaves it between two links.
use Rattle.std.proofs.Common.{◌≡◌, ℕ, ◌+◌, ◌<◌, ◌≤◌, List, length, get_or, set, Some, None, Option, sym, ap, ◌∙◌, subst, inl, inr, arith, get_or-set_other, get_or-set_same}
use Rattle.std.proofs.lemmas.Bool.{cases_eq, cases_lt}
use Rattle.subject.specs.declared.way.Way.{Way}
use Rattle.subject.specs.Sites.{SiteMeaning}
use Rattle.search.specs.Cells.{place_of}
use Rattle.subject.specs.Charges.{Laws}
use Rattle.search.specs.Search.{IsOffered, CoverStays}
use Rattle.search.specs.Index.{IsWayFrom, IsLargestOrNone, IsIndexed}
use Rattle.search.proofs.Turns.{some_same, none_some}
use Rattle.subject.specs.Problems.{Problem}

-- how many ways are not yet passed where a walk stands at a way, or at none
abbrev pub left_of : Option ℕ → ℕ
left_of None = 0
left_of (Some i) = i + 1

-- what is said of the largest way below n, where the walk's number stands for it
pub largest_below : {C : Type 0} (m : SiteMeaning C) (p n : ℕ) (h : Option ℕ) → IsLargestOrNone m p n h → left_of h ≤ n
largest_below m p n None l = omega arith
largest_below m p n (Some i) l = let b = l.below in omega arith

pub largest_none : {C : Type 0} (m : SiteMeaning C) (p n : ℕ) (h : Option ℕ) → IsLargestOrNone m p n h → (i : ℕ) → left_of h ≤ i → i < n → IsWayFrom m p i → ⊥
largest_none m p n None l i a b v = l i b v
largest_none m p n (Some j) l i a b v = l.none i (omega arith) b v

pub largest_leaves : {C : Type 0} (m : SiteMeaning C) (p n : ℕ) (h : Option ℕ) → IsLargestOrNone m p n h → (i : ℕ) → h ≡ Some i → IsWayFrom m p i
largest_leaves m p n None l i e = absurd (let z : ◌≡◌ {A = ℕ} 0 1 = cc in omega arith)
largest_leaves m p n (Some j) l i e = subst (λ (z : ℕ). IsWayFrom m p z) (some_same e) l.leaves

module _ {C : Type 0} (m : SiteMeaning C) (n : ℕ) (heads nexts : List (Option ℕ)) (ix : IsIndexed m heads nexts n) where
  larger : (p : ℕ) (h : Option ℕ) → (IsWayFrom m p n → ⊥) → IsLargestOrNone m p n h → IsLargestOrNone m p (n + 1) h
  larger p None away l = λ i b v. elim (cases_eq i n) [ inl e ↦ away (subst (λ (z : ℕ). IsWayFrom m p z) e v) | inr ne ↦ l i (omega arith) v ]
  larger p (Some h) away l = record {
    below = (let b = l.below in omega arith);
    leaves = l.leaves;
    none = λ i a b v. elim (cases_eq i n) [ inl e ↦ away (subst (λ (z : ℕ). IsWayFrom m p z) e v) | inr ne ↦ l.none i a (omega arith) v ];
  }

  -- a shut way changes nothing
  pub index_shut : m.way n ≡ None → IsIndexed m heads nexts (n + 1)
  index_shut e = record {
    of_place = λ p. larger p _ (λ v. none_some e v.1) (ix.of_place p);
    of_way = λ j p h v. elim (cases_eq j n) [
      | inl a ↦ absurd (none_some e (subst (λ (z : ℕ). IsWayFrom m p z) a v).1)
      | inr ne ↦ ix.of_way j p (omega arith) v
    ];
  }

  -- an open way becomes the head of the place that it leaves, and the old head its next
  pub index_way : (w : Way C) → m.way n ≡ Some w → w.from < m.places → w.from < length heads → n < length nexts
      → IsIndexed m (set heads w.from (Some n)) (set nexts n (get_or heads w.from None)) (n + 1)
  index_way w e inside lh ln = record {
    of_place = λ p. elim (cases_eq p w.from) [
      | inl a ↦ (
          let q : get_or (set heads w.from (Some n)) p None ≡ Some n = ap (λ (z : ℕ). get_or (set heads w.from (Some n)) z None) a ∙ get_or-set_same heads w.from (Some n) None lh in
          subst (λ (z : Option ℕ). IsLargestOrNone m p (n + 1) z) (sym q) (record {
            below = omega arith;
            leaves = (w, e, sym a);
            none = λ i b d v. omega arith;
          }))
      | inr ne ↦
          subst (λ (z : Option ℕ). IsLargestOrNone m p (n + 1) z) (sym (get_or-set_other heads w.from p (Some n) None ne))
          (larger p _ (λ v. ne (sym v.2 ∙ ap (λ (z : Way C). z.from) (some_same (sym v.1 ∙ e)))) (ix.of_place p))
    ];
    of_way = λ j p h v. elim (cases_eq j n) [
      | inl a ↦ (
          let v' = subst (λ (z : ℕ). IsWayFrom m p z) a v in
          let pf : w.from ≡ p = ap (λ (z : Way C). z.from) (some_same (sym e ∙ v'.1)) ∙ v'.2 in
          let q : get_or (set nexts n (get_or heads w.from None)) j None ≡ get_or heads p None = ap (λ (z : ℕ). get_or (set nexts n (get_or heads w.from None)) z None) a ∙ get_or-set_same nexts n (get_or heads w.from None) None ln ∙ ap (λ (z : ℕ). get_or heads z None) pf in
          subst (λ (z : Option ℕ). IsLargestOrNone m p j z) (sym q) (subst (λ (z : ℕ). IsLargestOrNone m p z (get_or heads p None)) (sym a) (ix.of_place p)))
      | inr ne ↦ subst (λ (z : Option ℕ). IsLargestOrNone m p j z) (sym (get_or-set_other nexts n j (get_or heads w.from None) None ne)) (ix.of_way j p (omega arith) v)
    ];
  }

module _ {C : Type 0} (P : Problem C) (laws : Laws P.kind) (done waits : ℕ → Option C) (x : ℕ) (c : C) where
  -- a way that does not leave the cell's place has nothing to offer
  pub idle_offered : (i : ℕ) → (IsWayFrom P.site (place_of P x) i → ⊥) → IsOffered P done waits x c i
  idle_offered i away mark w g = absurd (away (w, g.opens, g.leaves))

  -- one link of the walk, from the way `here` to `next`: the ways between them have nothing to offer
  pub walked : (done' waits' : ℕ → Option C) (ways here : ℕ) (next : Option ℕ) → CoverStays P done waits done' waits'
      → ((i : ℕ) → here + 1 ≤ i → i < ways → IsOffered P done waits x c i)
      → IsOffered P done' waits' x c here → IsLargestOrNone P.site (place_of P x) here next
      → (i : ℕ) → left_of next ≤ i → i < ways → IsOffered P done' waits' x c i
  walked done' waits' ways here next keeps before now l i a b =
      elim (cases_lt here i) [
        | inl h ↦ (λ mark w g. keeps _ _ _ (before i (omega arith) b mark w g))
        | inr h ↦ elim (cases_eq i here) [
          | inl e ↦ subst (λ (z : ℕ). IsOffered P done' waits' x c z) (sym e) now
          | inr ne ↦ (λ mark w g. absurd (largest_none P.site (place_of P x) here next l i a (omega arith) (w, g.opens, g.leaves)))
        ]
      ]

-- A table of cells, each a place with a loss and a charge, bounds every lawful run from below where it is closed: it has
-- the start for nothing, and every lawful step from one of its cells leads to another, with a charge no more than the
-- sum. By induction over the run from its front.
use Rattle.std.proofs.Common.{◌≡◌, ℕ, zero, suc, ◌+◌, ◌<◌, ◌≤◌, Bool, true, false, cond, not, T, eqb, ltb, leb, List, [], ◌∷◌, Some, None, Option, sym, refl, ap, ◌∙◌, subst, arith, eqb→eq, leb→le, ltb-false, ltb-true, eq-eqb, ne_eqb, eqb-true, le-leb}
use borrow.Author.Tests.{eqb-false}
use Rattle.subject.specs.Charges.{Laws}
use Rattle.subject.specs.Problems.{Problem}
use Rattle.subject.specs.Runs.{IsMarkAllowed, IsStepOver, loss_after, IsLawful, after_way, total_from, IsLowest, NoLawfulRun, place_behind, loss_behind}
use Rattle.subject.specs.declared.way.Way.{Way}
use Rattle.subject.specs.declared.run.Step.{Step}
use Rattle.search.proofs.Covers.{step_monotone}

-- tests: both, and one that counts only where another passes
abbrev both : Bool → Bool → Bool
both a b = cond a b false

abbrev implies : Bool → Bool → Bool
implies a b = cond a b true

left_of : (a b : Bool) → T (both a b) → T a
left_of true b t = tt
left_of false b t = t

right_of : (a b : Bool) → T (both a b) → T b
right_of true b t = t
right_of false b t = absurd t

implies_then : (a b : Bool) → a ≡ true → T (implies a b) → T b
implies_then true b e t = t
implies_then false b e t = absurd (let z : ◌≡◌ {A = ℕ} 0 1 = cc in omega arith)

passes : (b : Bool) → b ≡ true → T b
passes true e = tt
passes false e = absurd (let z : ◌≡◌ {A = ℕ} 0 1 = cc in omega arith)

is_true : (b : Bool) → T b → b ≡ true
is_true true t = refl
is_true false t = absurd t

together : (a b : Bool) → T a → T b → T (both a b)
together true b s t = t
together false b s t = s

here : (a b : Bool) → T a → T (cond a true b)
here true b t = tt
here false b t = absurd t

behind : (a b : Bool) → T b → T (cond a true b)
behind true b t = tt
behind false b t = t

contrary : (b : Bool) → b ≡ true → T (not b) → ⊥
contrary true e t = t
contrary false e t = let z : ◌≡◌ {A = ℕ} 0 1 = cc in omega arith

abbrev some_of : {A : Type 0} → (A → Bool) → List A → Bool
some_of t [] = false
some_of t (x ∷ xs) = cond (t x) true (some_of t xs)

abbrev all_of : {A : Type 0} → (A → Bool) → List A → Bool
all_of t [] = true
all_of t (x ∷ xs) = both (t x) (all_of t xs)

abbrev all_below : ℕ → (ℕ → Bool) → Bool
all_below zero t = true
all_below (suc n) t = both (t n) (all_below n t)

-- one that passes a test passes every test that all pass
pick : {A : Type 0} (s t : A → Bool) (xs : List A) → T (some_of s xs) → T (all_of t xs) → (x : A) × T (s x) × T (t x)
pick s t [] some all = absurd some
pick s t (x ∷ xs) some all =
    elim (s x) as (λ b. s x ≡ b → T (cond b true (some_of s xs)) → (y : _) × T (s y) × T (t y)) [
      | true ↦ (λ e _. (x, passes (s x) e, left_of (t x) (all_of t xs) all))
      | false ↦ (λ e rest. pick s t xs rest (right_of (t x) (all_of t xs) all))
    ]
    refl some

some_more : {A : Type 0} (s t : A → Bool) → ((x : A) → T (s x) → T (t x)) → (xs : List A) → T (some_of s xs) → T (some_of t xs)
some_more s t imp [] some = some
some_more s t imp (x ∷ xs) some =
    elim (s x) as (λ b. s x ≡ b → T (cond b true (some_of s xs)) → T (cond (t x) true (some_of t xs))) [
      | true ↦ (λ e _. here (t x) (some_of t xs) (imp x (passes (s x) e)))
      | false ↦ (λ e rest. behind (t x) (some_of t xs) (some_more s t imp xs rest))
    ]
    refl some

below_all : (n : ℕ) (t : ℕ → Bool) → T (all_below n t) → (i : ℕ) → i < n → T (t i)
below_all zero t all i h = absurd (omega arith)
below_all (suc n) t all i h =
    elim (eqb i n) as (λ b. eqb i n ≡ b → T (t i)) [
      | true ↦ (λ e. subst (λ j. T (t j)) (sym (eqb-true i n e)) (left_of (t n) (all_below n t) all))
      | false ↦ (λ e. below_all n t (right_of (t n) (all_below n t) all) i (let ne = eqb-false i n e in omega arith))
    ]
    refl

pub record Cell (C : Type 0) : Type 0 where
  pub place : ℕ
  pub loss : ℕ
  -- no lawful front of a run that is here has a lower sum
  pub low : C

abbrev pub cell : {C : Type 0} → ℕ → ℕ → C → Cell C
cell p l c = record { place = p; loss = l; low = c }

abbrev is_there : {C : Type 0} → Option C → Bool
is_there None = false
is_there (Some c) = true

module _ {C : Type 0} (P : Problem C) where
  -- a repeater may be marked at a place
  abbrev may_mark : Bool → ℕ → Bool
  may_mark true p = both (is_there (P.site.repeater p)) (both (not (eqb p P.request.start)) (not (eqb p P.request.end)))
  may_mark false p = true

  -- a cell is at a place with a loss, and its charge is no more than a sum
  abbrev serves : ℕ → ℕ → C → Cell C → Bool
  serves p l sum c = both (eqb c.place p) (both (eqb c.loss l) (P.kind.no_more c.low sum))

  abbrev pub is_served : List (Cell C) → ℕ → ℕ → C → Bool
  is_served cells p l sum = some_of (serves p l sum) cells

  -- a step from a cell over a way, where it is lawful, leads to a cell of the table
  abbrev step_stays : List (Cell C) → Cell C → Bool → Option (Way C) → Bool
  step_stays cells c mark None = true
  step_stays cells c mark (Some w) =
      implies (eqb w.from c.place) (implies (leb (c.loss + w.loss) P.request.bound) (implies (may_mark mark w.to)
      (is_served cells w.to (loss_after mark (c.loss + w.loss)) (after_way P c.low mark (Some w)))))

  abbrev way_stays : List (Cell C) → Cell C → ℕ → Bool
  way_stays cells c n = both (step_stays cells c false (P.site.way n)) (step_stays cells c true (P.site.way n))

  -- the table has the start for nothing, and no lawful step leads out of it
  abbrev pub is_closed : List (Cell C) → Bool
  is_closed cells = both (is_served cells P.request.start 0 P.kind.nothing) (all_of (λ c. all_below P.site.ways (way_stays cells c)) cells)

  -- every cell of the end has at least the charge c
  abbrev pub ends_from : C → List (Cell C) → Bool
  ends_from c cells = all_of (λ x. implies (eqb x.place P.request.end) (P.kind.no_more c x.low)) cells

  -- no cell is one of the end
  abbrev pub endless : List (Cell C) → Bool
  endless cells = all_of (λ x. not (eqb x.place P.request.end)) cells

  there : (o : Option C) (c : C) → o ≡ Some c → is_there o ≡ true
  there None c e = absurd (let z : ◌≡◌ {A = ℕ} 0 1 = cc in omega arith)
  there (Some d) c e = refl

  mark_passes : (mark : Bool) (p : ℕ) → IsMarkAllowed P mark p → may_mark mark p ≡ true
  mark_passes false p a = refl
  mark_passes true p a =
      let e1 = there (P.site.repeater p) a.repeater a.entered in
      let e2 = ne_eqb p P.request.start a.not_start in
      let e3 = ne_eqb p P.request.end a.not_end in
      ap (λ b. both b (both (not (eqb p P.request.start)) (not (eqb p P.request.end)))) e1
      ∙ ap (λ b. both (not b) (not (eqb p P.request.end))) e2
      ∙ ap not e3

  -- a way stays with either mark
  step_of_way : (cells : List (Cell C)) (c : Cell C) (mark : Bool) (n : ℕ) → T (way_stays cells c n) → T (step_stays cells c mark (P.site.way n))
  step_of_way cells c false n t = left_of (step_stays cells c false (P.site.way n)) (step_stays cells c true (P.site.way n)) t
  step_of_way cells c true n t = right_of (step_stays cells c false (P.site.way n)) (step_stays cells c true (P.site.way n)) t

  -- a step goes over a way lawfully, and steps lead on lawfully, as tests
  abbrev goes_over : ℕ → ℕ → Bool → Option (Way C) → Bool
  goes_over p l mark None = false
  goes_over p l mark (Some w) = both (eqb w.from p) (both (leb (l + w.loss) P.request.bound) (may_mark mark w.to))

  abbrev pub leads_on : ℕ → ℕ → List Step → Bool
  leads_on p l [] = eqb p P.request.end
  leads_on p l (s ∷ rest) =
      both (goes_over p l s.mark (P.site.way s.way)) (leads_on (place_behind (P.site.way s.way)) (loss_behind (P.site.way s.way) s.mark l) rest)

  charge_there : (o : Option C) → T (is_there o) → (c : C) × (o ≡ Some c)
  charge_there None t = absurd t
  charge_there (Some c) t = (c, refl)

  differs : (a b : ℕ) → T (not (eqb a b)) → a ≡ b → ⊥
  differs a b t e = contrary (eqb a b) (eq-eqb a b e) t

  mark_is_allowed : (mark : Bool) (p : ℕ) → T (may_mark mark p) → IsMarkAllowed P mark p
  mark_is_allowed false p t = tt
  mark_is_allowed true p t =
      let ends = right_of (is_there (P.site.repeater p)) (both (not (eqb p P.request.start)) (not (eqb p P.request.end))) t in
      let r = charge_there (P.site.repeater p) (left_of (is_there (P.site.repeater p)) (both (not (eqb p P.request.start)) (not (eqb p P.request.end))) t) in
      record {
        repeater = r.0;
        entered = r.1;
        not_start = differs p P.request.start (left_of (not (eqb p P.request.start)) (not (eqb p P.request.end)) ends);
        not_end = differs p P.request.end (right_of (not (eqb p P.request.start)) (not (eqb p P.request.end)) ends);
      }

  pub leads_on_lawfully : (run : List Step) (p l : ℕ) → T (leads_on p l run) → IsLawful P p l run
  leads_on_lawfully [] p l t = eqb→eq p P.request.end t
  leads_on_lawfully (s ∷ rest) p l t =
      elim (P.site.way s.way) as (λ o. P.site.way s.way ≡ o → T (both (goes_over p l s.mark o) (leads_on (place_behind o) (loss_behind o s.mark l) rest)) → IsLawful P p l (s ∷ rest)) [
        | None ↦ (λ e u. absurd u)
        | Some w ↦ (λ e u.
            let goes = left_of (goes_over p l s.mark (Some w)) (leads_on w.to (loss_after s.mark (l + w.loss)) rest) u in
            let on = right_of (goes_over p l s.mark (Some w)) (leads_on w.to (loss_after s.mark (l + w.loss)) rest) u in
            let more = right_of (eqb w.from p) (both (leb (l + w.loss) P.request.bound) (may_mark s.mark w.to)) goes in (
              w,
              record {
                opens = e;
                leaves = eqb→eq w.from p (left_of (eqb w.from p) (both (leb (l + w.loss) P.request.bound) (may_mark s.mark w.to)) goes);
                arrives = leb→le (l + w.loss) P.request.bound (left_of (leb (l + w.loss) P.request.bound) (may_mark s.mark w.to) more);
                marks = mark_is_allowed s.mark w.to (right_of (leb (l + w.loss) P.request.bound) (may_mark s.mark w.to) more);
              },
              leads_on_lawfully rest w.to (loss_after s.mark (l + w.loss)) on,
            ))
      ]
      refl t

  module _ (laws : Laws P.kind) (past : (n : ℕ) → P.site.ways ≤ n → P.site.way n ≡ None) (cells : List (Cell C)) (ok : T (is_closed cells)) where
    -- a higher sum is served by the same cell
    is_served_more : (p l : ℕ) (a b : C) → P.kind.no_more a b ≡ true → T (is_served cells p l a) → T (is_served cells p l b)
    is_served_more p l a b h =
        some_more (serves p l a) (serves p l b)
        (λ x t.
        let at = left_of (eqb x.place p) (both (eqb x.loss l) (P.kind.no_more x.low a)) t in
        let more = right_of (eqb x.place p) (both (eqb x.loss l) (P.kind.no_more x.low a)) t in
        let lost = left_of (eqb x.loss l) (P.kind.no_more x.low a) more in
        let low = is_true (P.kind.no_more x.low a) (right_of (eqb x.loss l) (P.kind.no_more x.low a) more) in
        together (eqb x.place p) (both (eqb x.loss l) (P.kind.no_more x.low b)) at
        (together (eqb x.loss l) (P.kind.no_more x.low b) lost
        (passes (P.kind.no_more x.low b) (laws.transitive x.low a b low h))))
        cells

    inside : (n : ℕ) (w : Way C) → P.site.way n ≡ Some w → n < P.site.ways
    inside n w e =
        elim (ltb n P.site.ways) as (λ b. ltb n P.site.ways ≡ b → n < P.site.ways) [
          | true ↦ (λ t. ltb-true n P.site.ways t)
          | false ↦ (λ t. let none = past n (ltb-false n P.site.ways t) in let z : ◌≡◌ {A = ℕ} 0 1 = cc in absurd (omega arith))
        ]
        refl

    -- a cell that serves: where it is, and that it passes what all cells pass
    cell_of : (t : Cell C → Bool) (p l : ℕ) (sum : C) → T (all_of t cells) → T (is_served cells p l sum)
        → (x : Cell C) × (x.place ≡ p) × (x.loss ≡ l) × (P.kind.no_more x.low sum ≡ true) × T (t x)
    cell_of t p l sum all some =
        let f = pick (serves p l sum) t cells some all in
        let x = f.0 in
        let at = left_of (eqb x.place p) (both (eqb x.loss l) (P.kind.no_more x.low sum)) f.1 in
        let more = right_of (eqb x.place p) (both (eqb x.loss l) (P.kind.no_more x.low sum)) f.1 in (
          x,
          eqb→eq x.place p at,
          eqb→eq x.loss l (left_of (eqb x.loss l) (P.kind.no_more x.low sum) more),
          is_true (P.kind.no_more x.low sum) (right_of (eqb x.loss l) (P.kind.no_more x.low sum) more),
          f.2,
        )

    all_stay : T (all_of (λ c. all_below P.site.ways (way_stays cells c)) cells)
    all_stay = right_of (is_served cells P.request.start 0 P.kind.nothing) (all_of (λ c. all_below P.site.ways (way_stays cells c)) cells) ok

    -- a lawful step from a cell leads to a cell of the table
    step_leads : (x : Cell C) (mark : Bool) (w : Way C) → w.from ≡ x.place → x.loss + w.loss ≤ P.request.bound → may_mark mark w.to ≡ true
        → T (step_stays cells x mark (Some w)) → T (is_served cells w.to (loss_after mark (x.loss + w.loss)) (after_way P x.low mark (Some w)))
    step_leads x mark w from bound may t =
        implies_then (may_mark mark w.to) _ may
        (implies_then (leb (x.loss + w.loss) P.request.bound) _ (le-leb (x.loss + w.loss) P.request.bound bound)
        (implies_then (eqb w.from x.place) _ (eq-eqb w.from x.place from) t))

    -- a lawful step leads from what the table serves to what it serves
    onward : (p l : ℕ) (sum : C) (s : Step) (w : Way C) → T (is_served cells p l sum) → IsStepOver P p l s w
        → T (is_served cells w.to (loss_after s.mark (l + w.loss)) (after_way P sum s.mark (Some w)))
    onward p l sum s w t goes =
        let f = cell_of (λ c. all_below P.site.ways (way_stays cells c)) p l sum all_stay t in
        let x = f.0 in
        let way = below_all P.site.ways (way_stays cells x) f.4 s.way (inside s.way w goes.opens) in
        let step = subst (λ o. T (step_stays cells x s.mark o)) goes.opens (step_of_way cells x s.mark s.way way) in
        let bound = subst (λ n. n + w.loss ≤ P.request.bound) (sym f.2) goes.arrives in
        let to = step_leads x s.mark w (goes.leaves ∙ sym f.1) bound (mark_passes s.mark w.to goes.marks) step in
        is_served_more w.to (loss_after s.mark (l + w.loss)) (after_way P x.low s.mark (Some w)) (after_way P sum s.mark (Some w))
        (step_monotone P laws x.low sum s.mark (Some w) f.3)
        (subst (λ n. T (is_served cells w.to (loss_after s.mark (n + w.loss)) (after_way P x.low s.mark (Some w)))) f.2 to)

    front : (Q : C → Type 0) → ((l : ℕ) (sum : C) → T (is_served cells P.request.end l sum) → Q sum)
        → (run : List Step) (p l : ℕ) (sum : C) → T (is_served cells p l sum) → IsLawful P p l run → Q (total_from P sum run)
    front Q ends [] p l sum t e = ends l sum (subst (λ n. T (is_served cells n l sum)) e t)
    front Q ends (s ∷ rest) p l sum t lawful =
        let w = lawful.0 in
        let opens = lawful.1.opens in
        subst (λ o. Q (total_from P (after_way P sum s.mark o) rest)) (sym opens)
        (front Q ends rest w.to (loss_after s.mark (l + w.loss)) (after_way P sum s.mark (Some w)) (onward p l sum s w t lawful.1) lawful.2)

    start_is_served : T (is_served cells P.request.start 0 P.kind.nothing)
    start_is_served = left_of (is_served cells P.request.start 0 P.kind.nothing) (all_of (λ c. all_below P.site.ways (way_stays cells c)) cells) ok

    pub none_lower : (c : C) → T (ends_from c cells) → IsLowest P c
    none_lower c ends run lawful =
        front (λ sum. P.kind.no_more c sum ≡ true)
        (λ l sum t.
        let f = cell_of (λ x. implies (eqb x.place P.request.end) (P.kind.no_more c x.low)) P.request.end l sum ends t in
        let low = implies_then (eqb f.0.place P.request.end) (P.kind.no_more c f.0.low) (eq-eqb f.0.place P.request.end f.1) f.4 in
        laws.transitive c f.0.low sum (is_true (P.kind.no_more c f.0.low) low) f.3)
        run P.request.start 0 P.kind.nothing start_is_served lawful

    pub none_lawful : T (endless cells) → NoLawfulRun P
    none_lawful ends run lawful =
        front (λ sum. ⊥)
        (λ l sum t.
        let f = cell_of (λ x. not (eqb x.place P.request.end)) P.request.end l sum ends t in
        contrary (eqb f.0.place P.request.end) (eq-eqb f.0.place P.request.end f.1) f.4)
        run P.request.start 0 P.kind.nothing start_is_served lawful

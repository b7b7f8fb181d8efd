-- Why a search over cells finds a least run, for any charge kind with its laws and any site, apart from all code: while
-- each step of the search keeps `Searching` (start_holds, take_keeps, offer_keeps, expanded, skipped), every lawful run is
-- told of by a waiting charge no higher than its total, by induction over the run from its front (told); so the lowest
-- waiting charge is no more than any total (lowest), and where none waits there is no lawful run (no_run).
use Rattle.std.proofs.Common.{◌≡◌, ℕ, ◌+◌, ◌<◌, ◌≤◌, Bool, true, false, ◌≢◌, ◌⊎◌, List, [], ◌∷◌, Some, None, Option, sym, refl, ap, ◌∙◌, subst, inl, inr, ⊎_elim, arith}
use Rattle.std.proofs.lemmas.Bool.{cases_Bool, cases_eq, cases_lt}
use Rattle.subject.specs.declared.way.Way.{Way}
use Rattle.subject.specs.declared.run.Step.{Step}
use Rattle.subject.specs.Sites.{IsBounded}
use Rattle.subject.specs.Runs.{IsStepOver, loss_after, after_way, with_repeater, IsLawful, total_from, IsRun, IsLowest}
use Rattle.subject.specs.Queues.{IsPut, IsTaken}
use Rattle.search.specs.Cells.{place_of, loss_of}
use Rattle.subject.specs.Charges.{Laws, Kind}
use Rattle.search.specs.Search.{IsCovered, IsOffered, SearchState, ExpandState, EnterOutcome, IsDominated}
use Rattle.subject.specs.Problems.{Problem}

pub no_more-self : {C : Type 0} (k : Kind C) → Laws k → (a : C) → k.no_more a a ≡ true
no_more-self k laws a = ⊎_elim (λ e. e) (λ e. laws.total a a e) (cases_Bool (k.no_more a a))

module _ {C : Type 0} (P : Problem C) (laws : Laws P.kind) where
  same : (a : C) → P.kind.no_more a a ≡ true
  same a = no_more-self P.kind laws a

  repeater_rises : (sum : C) (o : Option C) → P.kind.no_more sum (with_repeater P sum o) ≡ true
  repeater_rises sum None = same sum
  repeater_rises sum (Some c) = laws.rising sum c

  pub step_rises : (sum : C) (mark : Bool) (o : Option (Way C)) → P.kind.no_more sum (after_way P sum mark o) ≡ true
  step_rises sum mark None = same sum
  step_rises sum true (Some w) = laws.transitive sum (P.kind.join sum w.charge) _ (laws.rising sum w.charge) (repeater_rises (P.kind.join sum w.charge) (P.site.repeater w.to))
  step_rises sum false (Some w) = laws.rising sum w.charge

  pub run_rises : (run : List Step) (sum : C) → P.kind.no_more sum (total_from P sum run) ≡ true
  run_rises [] sum = same sum
  run_rises (s ∷ rest) sum =
      laws.transitive sum (after_way P sum s.mark (P.site.way s.way)) _
      (step_rises sum s.mark (P.site.way s.way))
      (run_rises rest (after_way P sum s.mark (P.site.way s.way)))

  repeater_monotone : (a b : C) (o : Option C) → P.kind.no_more a b ≡ true → P.kind.no_more (with_repeater P a o) (with_repeater P b o) ≡ true
  repeater_monotone a b None h = h
  repeater_monotone a b (Some c) h = laws.monotone a b c h

  pub step_monotone : (a b : C) (mark : Bool) (o : Option (Way C)) → P.kind.no_more a b ≡ true → P.kind.no_more (after_way P a mark o) (after_way P b mark o) ≡ true
  step_monotone a b mark None h = h
  step_monotone a b true (Some w) h = repeater_monotone _ _ (P.site.repeater w.to) (laws.monotone a b w.charge h)
  step_monotone a b false (Some w) h = laws.monotone a b w.charge h

  -- more loss or a higher sum is covered all the more
  pub covered_up : {done waits : ℕ → Option C} {p l : ℕ} {sum : C} (l' : ℕ) (sum' : C) → l ≤ l' → P.kind.no_more sum sum' ≡ true → IsCovered P done waits p l sum → IsCovered P done waits p l' sum'
  covered_up l' sum' h w g = record {
    cell = g.cell;
    charge = g.charge;
    place = g.place;
    loss = omega (arith, g.loss);
    low = laws.transitive _ _ _ g.low w;
    held = g.held;
  }

  after_up : (mark : Bool) (a b : ℕ) → a ≤ b → loss_after mark a ≤ loss_after mark b
  after_up true a b h = omega arith
  after_up false a b h = h

  goes_from : {p l : ℕ} (q l' : ℕ) (s : Step) (w : Way C) → q ≡ p → l' ≤ l → IsStepOver P p l s w → IsStepOver P q l' s w
  goes_from q l' s w e h g = record {
    opens = g.opens;
    leaves = g.leaves ∙ sym e;
    arrives = omega (arith, g.arrives);
    marks = g.marks;
  }

  -- what a state tells of a lawful run with the total sum: some waiting charge is no more than sum, or some cell of the end
  -- is settled
  pub Told : (done waits : ℕ → Option C) → C → Type 0
  Told done waits sum =
      ((x : ℕ) × (c : C) × (waits x ≡ Some c) × (P.kind.no_more c sum ≡ true))
      ⊎ ((x : ℕ) × (c : C) × (done x ≡ Some c) × (place_of P x ≡ P.request.end))

  pub told : (done waits : ℕ → Option C) → SearchState P done waits → (run : List Step) (p l : ℕ) (sum : C) → IsCovered P done waits p l sum → IsLawful P p l run → Told done waits (total_from P sum run)
  unfolding Told
  told done waits inv [] p l sum g e =
      elim g.held [
        | inl d ↦ inr (g.cell, g.charge, d, g.place ∙ e)
        | inr w ↦ inl (g.cell, g.charge, w, g.low)
      ]
  told done waits inv (s ∷ rest) p l sum g lawful =
      elim g.held [
        | inl d ↦ told done waits inv rest lawful.0.to (loss_after s.mark (l + lawful.0.loss)) (after_way P sum s.mark (P.site.way s.way)) (next d) lawful.2
        | inr w ↦ inl (g.cell, g.charge, w, laws.transitive _ _ _ g.low (run_rises (s ∷ rest) sum))
      ]
    where
      next : done g.cell ≡ Some g.charge → IsCovered P done waits lawful.0.to (loss_after s.mark (l + lawful.0.loss)) (after_way P sum s.mark (P.site.way s.way))
      next d =
          let w = lawful.0 in
          let loss = g.loss in
          let o = inv.offered g.cell g.charge d s.way s.mark w (goes_from _ _ s w g.place loss lawful.1) in
          let up : P.kind.no_more (after_way P g.charge s.mark (Some w)) (after_way P sum s.mark (P.site.way s.way)) ≡ true =
          rw lawful.1.opens (step_monotone _ _ s.mark (Some w) g.low) in
          covered_up _ _ (after_up s.mark _ _ (omega arith)) up o

  -- where nothing waits, no run is lawful: there is no waiting charge, and no cell of the end is settled
  pub no_run : (done waits : ℕ → Option C) → SearchState P done waits → ((x : ℕ) → waits x ≡ None) → (run : List Step) → IsRun P run → ⊥
  unfolding Told
  no_run done waits inv none run lawful =
      elim (told done waits inv run P.request.start 0 P.kind.nothing inv.started lawful) [
        | inl a ↦ (let e = none a.0 in let f = a.2 in let z : ◌≡◌ {A = ℕ} 0 1 = cc in omega arith)
        | inr b ↦ inv.open_end b.0 b.1 b.2 b.3
      ]

  -- a charge that is no more than every waiting one is no more than the total of any lawful run
  pub lowest : (done waits : ℕ → Option C) (c : C) → SearchState P done waits → ((x : ℕ) (d : C) → waits x ≡ Some d → P.kind.no_more c d ≡ true) → IsLowest P c
  unfolding Told
  lowest done waits c inv least run lawful =
      elim (told done waits inv run P.request.start 0 P.kind.nothing inv.started lawful) [
        | inl a ↦ laws.transitive _ _ _ (least a.0 a.1 a.2) a.3
        | inr b ↦ absurd (inv.open_end b.0 b.1 b.2 b.3)
      ]

  -- from one state to another all stays covered, if every cell that was held is covered with its charge in the new one
  pub covered_kept : (done waits done' waits' : ℕ → Option C)
      → ((x : ℕ) (c : C) → (done x ≡ Some c) ⊎ (waits x ≡ Some c) → IsCovered P done' waits' (place_of P x) (loss_of P x) c)
      → {p l : ℕ} {sum : C} → IsCovered P done waits p l sum → IsCovered P done' waits' p l sum
  covered_kept done waits done' waits' keep g =
      let n = keep g.cell g.charge g.held in
      record {
        cell = n.cell;
        charge = n.charge;
        place = n.place ∙ g.place;
        loss = omega (arith, n.loss, g.loss);
        low = laws.transitive _ _ _ n.low g.low;
        held = n.held;
      }

  -- a cell that is held covers itself
  pub itself : (done waits : ℕ → Option C) (x : ℕ) (c : C) → (done x ≡ Some c) ⊎ (waits x ≡ Some c) → IsCovered P done waits (place_of P x) (loss_of P x) c
  itself done waits x c h = record { cell = x; charge = c; place = refl; loss = omega arith; low = same c; held = h }

  -- the search begins: nothing is settled, and the start's cell alone waits, with nothing
  pub start_holds : (done waits : ℕ → Option C) (x : ℕ)
      → ((y : ℕ) → done y ≡ None) → IsPut (λ _. None) waits x P.kind.nothing → place_of P x ≡ P.request.start → loss_of P x ≡ 0
      → SearchState P done waits
  start_holds done waits x none put p l = record {
    started = record { cell = x; charge = P.kind.nothing; place = p; loss = omega arith; low = same P.kind.nothing; held = inr put.here };
    offered = λ y c e. absurd (never y c e);
    ordered = λ y z c d e f. absurd (never y c e);
    open_end = λ y c e. absurd (never y c e);
  }
    where
      never : (y : ℕ) (c : C) → done y ≡ Some c → ⊥
      never y c e = let f = none y in let z : ◌≡◌ {A = ℕ} 0 1 = cc in omega arith

  module _ (done waits done' waits' : ℕ → Option C) (x : ℕ) (c : C)
      (inv : SearchState P done waits) (fresh : done x ≡ None) (taken : IsTaken P.kind.no_more waits waits' x c) (put : IsPut done done' x c) where
    take_labels : (y : ℕ) (d : C) → (done y ≡ Some d) ⊎ (waits y ≡ Some d) → IsCovered P done' waits' (place_of P y) (loss_of P y) d
    take_labels y d h =
        elim (cases_eq y x) [
          | inl e ↦ elim h [
            | inl f ↦ absurd (let q : done y ≡ None = ap done e ∙ fresh in let z : ◌≡◌ {A = ℕ} 0 1 = cc in omega arith)
            | inr f ↦ let q : waits y ≡ Some c = ap waits e ∙ taken.waited in
                let cd : c ≡ d = cc in
                itself done' waits' y d (inl (ap done' e ∙ put.here ∙ ap Some cd))
          ]
          | inr ne ↦ elim h [
            | inl f ↦ itself done' waits' y d (inl (put.others y ne ∙ f))
            | inr f ↦ itself done' waits' y d (inr (taken.others y ne ∙ f))
          ]
        ]

    take_covered : {p l : ℕ} {sum : C} → IsCovered P done waits p l sum → IsCovered P done' waits' p l sum
    take_covered = covered_kept done waits done' waits' take_labels

    was : (y : ℕ) (d : C) → done' y ≡ Some d → y ≢ x → done y ≡ Some d
    was y d e ne = sym (put.others y ne) ∙ e

    -- a lowest waiting cell, which is not one of the end, is taken and settled
    pub take_keeps : place_of P x ≢ P.request.end → ExpandState P done' waits' x c
    take_keeps ne = record {
      started = take_covered inv.started;
      settled = put.here;
      offered = λ y d e a i mark w g. take_covered (inv.offered y d (was y d e a) i mark w g);
      below = λ y d e. elim (cases_eq y x) [
        | inl a ↦ let q : done' y ≡ Some c = ap done' a ∙ put.here in let dc : d ≡ c = cc in rw dc (same c)
        | inr a ↦ inv.ordered y x d c (was y d e a) taken.waited
      ];
      above = λ y d e. elim (cases_eq y x) [
        | inl a ↦ absurd (let q : waits' y ≡ None = ap waits' a ∙ taken.gone in let z : ◌≡◌ {A = ℕ} 0 1 = cc in omega arith)
        | inr a ↦ taken.least y d (sym (taken.others y a) ∙ e)
      ];
      open_end = λ y d e. elim (cases_eq y x) [
        | inl a ↦ (λ q. ne (ap (place_of P) (sym a) ∙ q))
        | inr a ↦ inv.open_end y d (was y d e a)
      ];
    }

  module _ (done waits waits' : ℕ → Option C) (y : ℕ) (d : C) (en : EnterOutcome P.kind done waits waits' y d) where
    offer_labels : (z : ℕ) (e : C) → (done z ≡ Some e) ⊎ (waits z ≡ Some e) → IsCovered P done waits' (place_of P z) (loss_of P z) e
    offer_labels z e h =
        elim h [
          | inl f ↦ itself done waits' z e (inl f)
          | inr f ↦ elim (cases_eq z y) [
            | inl a ↦ let b = en.better e (ap waits (sym a) ∙ f) in
                record { cell = z; charge = b.0; place = refl; loss = omega arith; low = b.2; held = inr (ap waits' a ∙ b.1) }
            | inr a ↦ itself done waits' z e (inr (en.others z a ∙ f))
          ]
        ]

    pub offer_covered : {p l : ℕ} {sum : C} → IsCovered P done waits p l sum → IsCovered P done waits' p l sum
    offer_covered = covered_kept done waits done waits' offer_labels

    -- the offered place, loss and charge are covered
    pub offer_covers : (p l : ℕ) → place_of P y ≡ p → loss_of P y ≡ l → IsCovered P done waits' p l d
    offer_covers p l a b = record { cell = y; charge = en.charge; place = a; loss = omega arith; low = en.low; held = en.held }

    -- a cell is offered a charge that is no less than that of the cell it comes from
    pub offer_keeps : (x : ℕ) (c : C) → P.kind.no_more c d ≡ true → ExpandState P done waits x c → ExpandState P done waits' x c
    offer_keeps x c up inv = record {
      started = offer_covered inv.started;
      settled = inv.settled;
      offered = λ z e f a i mark w g. offer_covered (inv.offered z e f a i mark w g);
      below = inv.below;
      above = λ z e f. elim (cases_eq z y) [
        | inl a ↦ elim (en.from e (ap waits' (sym a) ∙ f)) [
          | inl b ↦ rw b up
          | inr b ↦ inv.above y e b
        ]
        | inr a ↦ inv.above z e (sym (en.others z a) ∙ f)
      ];
      open_end = inv.open_end;
    }

  -- every way was offered, so that the next cell can be taken; past the number of ways there is none to offer
  pub expanded : (done waits : ℕ → Option C) (x : ℕ) (c : C) → IsBounded P.site → ExpandState P done waits x c → ((i : ℕ) → i < P.site.ways → IsOffered P done waits x c i) → SearchState P done waits
  expanded done waits x c b inv all = record {
    started = inv.started;
    offered = λ y d e i. elim (cases_eq y x) [
      | inl a ↦ (λ mark w g. elim (cases_lt i P.site.ways) [
        | inl h ↦ let q : done y ≡ Some c = ap done a ∙ inv.settled in let dc : d ≡ c = cc in
            rw (a, dc) (all i h mark w (rw (← a) g))
        | inr h ↦ absurd (let f = b.no_way i h in let o = g.opens in let z : ◌≡◌ {A = ℕ} 0 1 = cc in omega arith)
      ])
      | inr a ↦ inv.offered y d e a i
    ];
    ordered = λ y z d e f g. laws.transitive _ _ _ (inv.below y d f) (inv.above z e g);
    open_end = inv.open_end;
  }

  -- the ways of a dominated cell need no offer: each leads where the dominating cell's did, with no more loss for no more
  pub skipped : (done waits : ℕ → Option C) (x : ℕ) (c : C) → ExpandState P done waits x c → IsDominated P done x → SearchState P done waits
  skipped done waits x c inv dom = record {
    started = inv.started;
    offered = λ y d e i. elim (cases_eq y x) [
      | inl a ↦ (λ mark w g.
          let q : done y ≡ Some c = ap done a ∙ inv.settled in
          let dc : c ≡ d = cc in
          let loss = dom.loss in
          let place : place_of P dom.cell ≡ place_of P y = dom.place ∙ ap (place_of P) (sym a) in
          let less : loss_of P dom.cell ≤ loss_of P y = (let z : loss_of P y ≡ loss_of P x = ap (loss_of P) a in omega arith) in
          covered_up _ _ (after_up mark _ _ (omega arith))
          (step_monotone dom.charge d mark (Some w) (subst (λ z. P.kind.no_more dom.charge z ≡ true) dc (inv.below dom.cell dom.charge dom.settled)))
          (inv.offered dom.cell dom.charge dom.settled dom.apart i mark w (goes_from _ _ _ w place less g)))
      | inr a ↦ inv.offered y d e a i
    ];
    ordered = λ y z d e f g. laws.transitive _ _ _ (inv.below y d f) (inv.above z e g);
    open_end = inv.open_end;
  }

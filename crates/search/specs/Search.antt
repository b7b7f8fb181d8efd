-- The state of a search, as two maps from cell numbers to charges, `done` for the settled cells and `waits` for those in
-- the queue; and what the search keeps true of it. Stands on runs and cells.
use Rattle.std.specs.Prelude.{◌≡◌, ℕ, ◌+◌, ◌≤◌, Bool, true, ◌≢◌, ◌⊎◌, Some, Option}
use Rattle.subject.specs.Charges.{Kind}
use Rattle.subject.specs.declared.way.Way.{Way}
use Rattle.subject.specs.declared.run.Step.{Step}
use Rattle.subject.specs.Runs.{IsStepOver, loss_after, after_way}
use Rattle.search.specs.Cells.{place_of, loss_of}
use Rattle.subject.specs.Problems.{Problem}

-- to stand at the place p with the loss l and the total sum is covered: some cell of that place with no more loss, settled
-- or waiting, has a charge that is no more than sum
pub record IsCovered {C : Type 0} (P : Problem C) (done waits : ℕ → Option C) (p l : ℕ) (sum : C) : Type 0 where
  pub cell : ℕ
  pub charge : C
  pub place : place_of P cell ≡ p
  pub loss : loss_of P cell ≤ l
  pub low : P.kind.no_more charge sum ≡ true
  pub held : (done cell ≡ Some charge) ⊎ (waits cell ≡ Some charge)

abbrev pub step_of : ℕ → Bool → Step
step_of n b = record { way = n; mark = b }

-- the way n has been offered from the cell x with the charge c: wherever it lawfully leads from there is covered
abbrev pub IsOffered : {C : Type 0} → Problem C → (ℕ → Option C) → (ℕ → Option C) → ℕ → C → ℕ → Type 0
IsOffered {C} P done waits x c n = (mark : Bool) (w : Way C) → IsStepOver P (place_of P x) (loss_of P x) (step_of n mark) w → IsCovered P done waits w.to (loss_after mark (loss_of P x + w.loss)) (after_way P c mark (Some w))

-- what holds each time that a cell is to be taken
pub record SearchState {C : Type 0} (P : Problem C) (done waits : ℕ → Option C) : Type 0 where
  -- the start is covered
  pub started : IsCovered P done waits P.request.start 0 P.kind.nothing
  -- every way has been offered from every settled cell
  pub offered : (x : ℕ) (c : C) → done x ≡ Some c → (n : ℕ) → IsOffered P done waits x c n
  -- settled charges are no more than waiting ones
  pub ordered : (x y : ℕ) (c d : C) → done x ≡ Some c → waits y ≡ Some d → P.kind.no_more c d ≡ true
  -- no cell of the end is settled
  pub open_end : (x : ℕ) (c : C) → done x ≡ Some c → place_of P x ≢ P.request.end

-- what holds while the ways out of the cell x, which was settled with c, are being offered
pub record ExpandState {C : Type 0} (P : Problem C) (done waits : ℕ → Option C) (x : ℕ) (c : C) : Type 0 where
  pub started : IsCovered P done waits P.request.start 0 P.kind.nothing
  pub settled : done x ≡ Some c
  -- every way has been offered from every other settled cell
  pub offered : (y : ℕ) (d : C) → done y ≡ Some d → y ≢ x → (i : ℕ) → IsOffered P done waits y d i
  -- c lies between the settled charges and the waiting ones
  pub below : (y : ℕ) (d : C) → done y ≡ Some d → P.kind.no_more d c ≡ true
  pub above : (y : ℕ) (d : C) → waits y ≡ Some d → P.kind.no_more c d ≡ true
  pub open_end : (y : ℕ) (d : C) → done y ≡ Some d → place_of P y ≢ P.request.end

-- what an offer of the charge d to the cell y does to the waiting cells: y is held with no more than d, a charge that
-- waited there gave way to no higher one, and every other cell is as it was
pub record EnterOutcome {C : Type 0} (k : Kind C) (done before after : ℕ → Option C) (y : ℕ) (d : C) : Type 0 where
  pub charge : C
  pub low : k.no_more charge d ≡ true
  pub held : (done y ≡ Some charge) ⊎ (after y ≡ Some charge)
  pub from : (e : C) → after y ≡ Some e → (e ≡ d) ⊎ (before y ≡ Some e)
  pub better : (e : C) → before y ≡ Some e → (f : C) × (after y ≡ Some f) × (k.no_more f e ≡ true)
  pub others : (z : ℕ) → z ≢ y → after z ≡ before z

-- whatever was covered is covered still
abbrev pub CoverStays : {C : Type 0} → Problem C → (ℕ → Option C) → (ℕ → Option C) → (ℕ → Option C) → (ℕ → Option C) → Type 0
CoverStays {C} P done waits done' waits' = (p l : ℕ) (sum : C) → IsCovered P done waits p l sum → IsCovered P done' waits' p l sum

-- another cell of the same place is settled, with no more loss
pub record IsDominated {C : Type 0} (P : Problem C) (done : ℕ → Option C) (x : ℕ) : Type 0 where
  pub cell : ℕ
  pub charge : C
  pub settled : done cell ≡ Some charge
  pub apart : cell ≢ x
  pub place : place_of P cell ≡ place_of P x
  pub loss : loss_of P cell ≤ loss_of P x

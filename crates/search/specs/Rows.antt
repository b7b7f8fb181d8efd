-- The rows of cells as the state of a search: which of them are settled and which wait, how each was reached, and the run
-- that they tell. Stands on the search's state.
use Rattle.std.specs.Prelude.{◌≡◌, ℕ, ◌+◌, ◌^◌, ◌<◌, ◌≤◌, Bool, true, false, not, ◌⊎◌, List, [], ◌∷◌, length, Some, None, Option, slice_set}
use Rattle.std.specs.List.{slice_get}
use Rattle.subject.specs.Charges.{Kind}
use Rattle.subject.specs.declared.way.Way.{Way}
use Rattle.subject.specs.declared.run.Step.{Step}
use Rattle.subject.specs.Runs.{IsStepOver, loss_after, after_way, IsLowest, IsLawful, total_from, IsAvoided, NoneTwice, IsRun, total}
use Rattle.search.specs.Cells.{place_of, loss_of, cell_count}
use Rattle.search.specs.Search.{ExpandState, EnterOutcome}
use Rattle.search.specs.Columns.{reached_as}
use Rattle.search.specs.declared.cell.Cell.{Cell}
use Rattle.search.specs.declared.cell.Cell.TheVariants.{Unseen, Waiting, Settled}
use Rattle.search.specs.declared.cell.Link.{Link}
use Rattle.search.specs.declared.cell.Reached.{Reached}
use Rattle.subject.specs.declared.run.TheConstants.{MOST_BOUND}
use Rattle.subject.specs.Problems.{Problem}

abbrev pub settled_as : {C : Type 0} → Cell C → Option C
settled_as Unseen = None
settled_as (Waiting r) = None
settled_as (Settled r) = Some r.charge

abbrev pub waits_as : {C : Type 0} → Cell C → Option C
waits_as Unseen = None
waits_as (Waiting r) = Some r.charge
waits_as (Settled r) = None

abbrev pub settled_row : {C : Type 0} → Option (Cell C) → Option C
settled_row None = None
settled_row (Some c) = settled_as c

abbrev pub waits_row : {C : Type 0} → Option (Cell C) → Option C
waits_row None = None
waits_row (Some c) = waits_as c

abbrev pub reached_row : {C : Type 0} → Option (Cell C) → Option (Reached C)
reached_row None = None
reached_row (Some c) = reached_as c

-- the charge of the cell x where it is settled
unfoldable pub done_in : {C : Type 0} → List (Cell C) → ℕ → Option C
done_in rows x = settled_row (slice_get rows x)

-- how the cell x was reached, where it was
abbrev pub reached_in : {C : Type 0} → List (Cell C) → ℕ → Option (Reached C)
reached_in rows x = reached_row (slice_get rows x)

-- the queue holds just the cells whose rows say that they wait
abbrev pub QueueAgrees : {C : Type 0} → List (Cell C) → (ℕ → Option C) → Type 0
QueueAgrees rows waits = (x : ℕ) → waits x ≡ waits_row (slice_get rows x)

abbrev pub one_if : {C : Type 0} → Cell C → ℕ
one_if Unseen = 0
one_if (Waiting r) = 0
one_if (Settled r) = 1

-- how many rows are settled
abbrev pub settled_count : {C : Type 0} → List (Cell C) → ℕ
settled_count [] = 0
settled_count (c ∷ cs) = one_if c + settled_count cs

-- the cell x is the one in which the run starts, and r tells so
pub record IsFirst {C : Type 0} (P : Problem C) (x : ℕ) (r : Reached C) : Type 0 where
  pub place : place_of P x ≡ P.request.start
  pub loss : loss_of P x ≡ 0
  pub link : r.link ≡ None
  pub steps : r.steps ≡ 0
  pub charge : r.charge ≡ P.kind.nothing

-- r tells a lawful step to the cell x from a settled cell, and has that cell's charge and steps with the step's added
pub record IsNext {C : Type 0} (P : Problem C) (rows : List (Cell C)) (x : ℕ) (r : Reached C) : Type 0 where
  pub by : Link
  pub link : r.link ≡ Some by
  pub before : Reached C
  pub row : slice_get rows by.from ≡ Some (Settled before)
  pub over : Way C
  pub goes : IsStepOver P (place_of P by.from) (loss_of P by.from) by.step over
  pub place : place_of P x ≡ over.to
  pub loss : loss_of P x ≡ loss_after by.step.mark (loss_of P by.from + over.loss)
  pub charge : r.charge ≡ after_way P before.charge by.step.mark (Some over)
  pub steps : r.steps ≡ before.steps + 1

abbrev pub IsLinked : {C : Type 0} → Problem C → List (Cell C) → ℕ → Reached C → Type 0
IsLinked P rows x r = IsFirst P x r ⊎ IsNext P rows x r

-- rows and queue agree; each cell that was reached tells how; and its steps are no more than the settled rows, less than
-- them where it is one of them
pub record Bookkeeping {C : Type 0} (P : Problem C) (rows : List (Cell C)) (waits : ℕ → Option C) : Type 0 where
  pub agree : QueueAgrees rows waits
  pub linked : (x : ℕ) (r : Reached C) → reached_in rows x ≡ Some r → IsLinked P rows x r
  pub few : (x : ℕ) (r : Reached C) → reached_in rows x ≡ Some r → r.steps ≤ settled_count rows
  pub fewer : (x : ℕ) (r : Reached C) → slice_get rows x ≡ Some (Settled r) → r.steps < settled_count rows

-- what holds while the ways out of the cell x, which was settled as `here`, are being offered
pub record TurnState {C : Type 0} (P : Problem C) (rows : List (Cell C)) (waits : ℕ → Option C) (x : ℕ) (here : Reached C) : Type 0 where
  pub expanding : ExpandState P (done_in rows) waits x here.charge
  pub books : Bookkeeping P rows waits
  pub row : slice_get rows x ≡ Some (Settled here)

-- what an offer leaves, to let the cell `at` wait as reached by `new`: it is written there, over a row that is not
-- settled, or nothing is
pub record OfferOutcome {C : Type 0} (k : Kind C) (rows rows' : List (Cell C)) (waits waits' : ℕ → Option C) (at : ℕ) (new : Reached C) : Type 0 where
  pub entered : EnterOutcome k (done_in rows) waits waits' at new.charge
  pub agree : QueueAgrees rows' waits'
  pub change : (rows' ≡ rows) ⊎ ((rows' ≡ slice_set rows at (Waiting new)) × (done_in rows at ≡ None))

-- the rows and the queue have room for every cell of the request
pub record RoomSuffices {C : Type 0} (P : Problem C) (cells queue : ℕ) : Type 0 where
  pub bound : P.request.bound ≤ MOST_BOUND
  pub fits : cells < 2 ^ 64
  pub cells_suffice : cell_count P ≤ cells
  pub queue_suffices : cell_count P ≤ queue

-- whether the charge c is to be written over what is known of a cell
abbrev pub improves : {C : Type 0} → Kind C → Cell C → C → Bool
improves k Unseen c = true
improves k (Waiting r) c = not (k.no_more r.charge c)
improves k (Settled r) c = false

-- the cell `at`, which was reached as `here` tells, is settled so
pub record SettleOutcome {C : Type 0} (rows rows' : List (Cell C)) (at : ℕ) (here : Reached C) : Type 0 where
  pub was : reached_in rows at ≡ Some here
  pub written : rows' ≡ slice_set rows at (Settled here)

-- the cell x of the end was taken: no lawful run has a lower total than its charge, and the rows tell how it was reached
pub record EndTaken {C : Type 0} (P : Problem C) (rows : List (Cell C)) (x : ℕ) : Type 0 where
  pub last : Reached C
  pub row : reached_in rows x ≡ Some last
  pub end : place_of P x ≡ P.request.end
  pub lowest : IsLowest P last.charge
  pub linked : (y : ℕ) (r : Reached C) → reached_in rows y ≡ Some r → IsLinked P rows y r
  pub few : last.steps < length rows

-- the steps `rest` lead on lawfully from the cell x, which was reached as r tells, to the end, where the total is sum; they leave no cell
-- twice, and no cell that has fewer steps than r
pub record Trail {C : Type 0} (P : Problem C) (rows : List (Cell C)) (x : ℕ) (r : Reached C) (rest : List Step) (sum : C) : Type 0 where
  pub lawful : IsLawful P (place_of P x) (loss_of P x) rest
  pub comes_to : total_from P r.charge rest ≡ sum
  pub avoids : (y : ℕ) (q : Reached C) → reached_in rows y ≡ Some q → q.steps < r.steps → IsAvoided P (place_of P y) (loss_of P y) (place_of P x) (loss_of P x) rest
  pub once : NoneTwice P (place_of P x) (loss_of P x) rest

-- a lawful run with its total, which leaves no place twice with the same loss
pub record WholeRun {C : Type 0} (P : Problem C) (run : List Step) (sum : C) : Type 0 where
  pub lawful : IsRun P run
  pub comes_to : sum ≡ total P run
  pub once : NoneTwice P P.request.start 0 run

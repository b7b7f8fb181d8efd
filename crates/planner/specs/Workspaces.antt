-- The rows in which a search works: what a search counts on, what its steps keep, and what they have come to. Stands on the
-- state of a search in rows and queue, and on the structs of a query and of a workspace.
use Rattle.std.specs.Prelude.{◌≡◌, ℕ, ◌+◌, min, length, Some}
use Rattle.subject.specs.declared.charge.Charge.{Ghosts as ChargeGhosts}
use Rattle.subject.specs.declared.queue.PriorityQueue.{Ghosts as QueueGhosts}
use Rattle.subject.specs.declared.site.Site.{Ghosts as SiteGhosts}
use Rattle.subject.specs.Problems.{Problem, problem_of}
use Rattle.subject.specs.Queues.{SameRows}
use Rattle.subject.specs.declared.run.Step.{Step}
use Rattle.subject.specs.declared.way.Way.{Way}
use Rattle.subject.specs.Runs.{after_way, loss_after}
use Rattle.search.specs.Cells.{loss_of}
use Rattle.search.specs.Columns.{cells_of, heads_of, nexts_of}
use Rattle.search.specs.Index.{IsIndexed}
use Rattle.search.specs.Rows.{RoomSuffices, Bookkeeping, TurnState, done_in, settled_count}
use Rattle.search.specs.Search.{SearchState, IsCovered, IsOffered, CoverStays}
use Rattle.planner.specs.declared.query.Query.{Query}
use Rattle.planner.specs.declared.workspace.Settled.{Settled}
use Rattle.planner.specs.declared.workspace.Workspace.{Workspace}

-- what a query asks
abbrev pub problem : {S C : Type 0} {s : SiteGhosts S C} {c : ChargeGhosts C} → Query S C s c → Problem C
problem {s = s} {c = c} a = problem_of s c a.site.now a.request

module _ {C Q : Type 0} (P : Problem C) (q : QueueGhosts Q C) where
  -- there is room for every cell, the rows of the queue are in their order, and the ways are in the index
  pub record IsReady (w : Workspace C Q) : Type 0 where
    pub room : RoomSuffices P (length w.cells.now) (q.rows w.queue.now)
    pub ordered : q.is_ordered w.queue.now
    pub indexed : IsIndexed P.site (heads_of w.cells.now) (nexts_of w.cells.now) (min P.site.ways (length w.cells.now))

  -- what holds each time that a cell is to be taken
  pub record RestState (w : Workspace C Q) : Type 0 where
    pub searching : SearchState P (done_in (cells_of w.cells.now)) (q.waits w.queue.now)
    pub books : Bookkeeping P (cells_of w.cells.now) (q.waits w.queue.now)

  -- what holds while the ways out of a settled cell are being offered
  abbrev pub IsTurn : Workspace C Q → Settled C → Type 0
  IsTurn w from = TurnState P (cells_of w.cells.now) (q.waits w.queue.now) from.at from.here

  -- where the step s leads from a settled cell over an open way is covered
  abbrev pub CoversStep : Workspace C Q → Settled C → Step → Way C → Type 0
  CoversStep w from s way =
      IsCovered P (done_in (cells_of w.cells.now)) (q.waits w.queue.now)
      way.to (loss_after s.mark (loss_of P from.at + way.loss)) (after_way P from.here.charge s.mark (Some way))

  -- the way n has been offered from a settled cell
  abbrev pub OffersWay : Workspace C Q → Settled C → ℕ → Type 0
  OffersWay w from n = IsOffered P (done_in (cells_of w.cells.now)) (q.waits w.queue.now) from.at from.here.charge n

  -- whatever was covered is covered still
  abbrev pub StaysCovered : Workspace C Q → Workspace C Q → Type 0
  StaysCovered w w' =
      CoverStays P
      (done_in (cells_of w.cells.now)) (q.waits w.queue.now)
      (done_in (cells_of w'.cells.now)) (q.waits w'.queue.now)

-- the same cell rows and the same queue, with as many rows as before
pub record SameWorkspace {C Q : Type 0} (q : QueueGhosts Q C) (w w' : Workspace C Q) : Type 0 where
  pub cells : w'.cells.ghost_name ≡ w.cells.ghost_name
  pub queue : w'.queue.ghost_name ≡ w.queue.ghost_name
  pub cell_count : length w'.cells.now ≡ length w.cells.now
  pub rows : SameRows q.rows q.lenders w.queue.now w'.queue.now

-- the rows are ready still: they are the same, and as many cells are settled as before
pub record ReadyStays {C Q : Type 0} (P : Problem C) (q : QueueGhosts Q C) (w w' : Workspace C Q) : Type 0 where
  pub ready : IsReady P q w'
  pub same : SameWorkspace q w w'
  pub count : settled_count (cells_of w'.cells.now) ≡ settled_count (cells_of w.cells.now)

-- the ways out of a settled cell are being offered still: the rows are ready, and whatever was covered is covered still
pub record TurnStays {C Q : Type 0} (P : Problem C) (q : QueueGhosts Q C) (w w' : Workspace C Q) (from : Settled C) : Type 0 where
  pub rows : ReadyStays P q w w'
  pub turn : IsTurn P q w' from
  pub keeps : StaysCovered P q w w'

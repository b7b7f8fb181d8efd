-- What a plan answers and what it leaves, for every problem and number of rows. Stands on runs, and on the causes for which a
-- request is refused before any search.
use Rattle.std.specs.Prelude.{◌≡◌, ◌≤◌, ◌⊎◌, List, length, take, drop, Result, MatchResult}
use Rattle.subject.specs.declared.queue.PriorityQueue.{Ghosts as QueueGhosts}
use Rattle.subject.specs.declared.refusal.Refusal.{Refusal}
use Rattle.subject.specs.declared.refusal.Refusal.TheVariants.{NoRun}
use Rattle.subject.specs.declared.run.Step.{Step}
use Rattle.subject.specs.Problems.{Problem}
use Rattle.subject.specs.Runs.{IsLeast, NoneTwice, NoLawfulRun}
use Rattle.search.specs.declared.check.RowCounts.{RowCounts}
use Rattle.search.specs.Checks.{ChecksPass, FirstCause}
use Rattle.search.specs.Memories.{LentMemory, counts_of}
use Rattle.search.specs.Owned.{owned_memory}
use Rattle.search.specs.declared.owned.OwnedRows.{OwnedRows}
use Rattle.planner.specs.declared.plan.Planned.{Planned}

-- a least run is in the first run rows and leaves no place twice with the same loss; the run rows behind are as they were
pub record RunHandedOut {C : Type 0} (P : Problem C) (run run' : List Step) (p : Planned C) : Type 0 where
  pub steps : p.steps ≤ length run
  pub least : IsLeast P (take p.steps run') p.total
  pub once : NoneTwice P P.request.start 0 (take p.steps run')
  pub behind : drop p.steps run' ≡ drop p.steps run

-- a request passes the checks for the lent rows, or the refusal e names the first cause that it does not
abbrev pub PlanPasses : {C : Type 0} → Problem C → RowCounts → Type 0
PlanPasses P counts = ChecksPass P.site.places P.request counts

abbrev pub PlanCause : {C : Type 0} → Problem C → RowCounts → Refusal → Type 0
PlanCause P counts e = FirstCause P.site.places P.request counts e

-- a refused request: there is a cause before any search, and all that was lent is as it was; or there is no lawful run, and the
-- run rows are as they were
abbrev pub PlanRefused : {C Q : Type 0} → Problem C → RowCounts → LentMemory C Q → LentMemory C Q → Refusal → Type 0
PlanRefused P counts h h' e =
    (PlanCause P counts e × (h' ≡ h))
    ⊎ ((e ≡ NoRun) × PlanPasses P counts × NoLawfulRun P × (h'.run ≡ h.run))

-- a plan, with what is lent as it was and as it is afterwards: a request that passes gets a least run, or it is refused; and the
-- queue has as many rows as before
pub record PlanOutcome {C Q : Type 0} (P : Problem C) (q : QueueGhosts Q C) (h h' : LentMemory C Q) (r : Result (Planned C) Refusal) : Type 0 where
  pub answer : MatchResult r
      (λ p. PlanPasses P (counts_of q h) × RunHandedOut P h.run h'.run p)
      (λ e. PlanRefused P (counts_of q h) h h' e)
  pub rows : q.rows h'.queue ≡ q.rows h.queue

-- the same for cell rows and run rows that a program owns, and a queue that is handed in and used up: with some queue that it
-- comes to
abbrev pub OwnedOutcome : {C Q : Type 0} → Problem C → QueueGhosts Q C → Q → OwnedRows C → OwnedRows C → Result (Planned C) Refusal → Type 0
OwnedOutcome {C} {Q} P q queue rows rows' r =
    (queue' : Q) × PlanOutcome P q (owned_memory rows queue) (owned_memory rows' queue') r

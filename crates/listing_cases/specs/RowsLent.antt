-- How many rows a plan is lent, and why it is refused over so many. Stands on the structs of the rows, on runs, and on
-- the causes for which a request is refused.
use Rattle.std.specs.Prelude.{◌≡◌, ◌⊎◌, vec_len}
use Rattle.subject.specs.Problems.{Problem}
use Rattle.subject.specs.Runs.{NoLawfulRun}
use Rattle.subject.specs.declared.refusal.Refusal.{Refusal}
use Rattle.subject.specs.declared.refusal.Refusal.TheVariants.{NoRun}
use Rattle.search.specs.declared.check.RowCounts.{RowCounts}
use Rattle.planner.specs.Outcome.{PlanPasses, PlanCause}
use Rattle.listing_cases.specs.declared.kind.Rows.{Rows}

abbrev pub counts_in : {C : Type 0} → Rows C → RowCounts
counts_in r = record { cells = vec_len r.plan.cells; queue = vec_len r.queue; run = vec_len r.plan.run }

-- the refusal names the first cause before any search, or no run is lawful
abbrev pub IsRefusal : {C : Type 0} → Problem C → RowCounts → Refusal → Type 0
IsRefusal P counts e = PlanCause P counts e ⊎ ((e ≡ NoRun) × PlanPasses P counts × NoLawfulRun P)

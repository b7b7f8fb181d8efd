-- What is known of the answer of a plan, over any site. Stands on runs, and on the causes for which a request is
-- refused.
use Rattle.std.specs.Prelude.{◌≡◌, ◌⊎◌, List, None, take, Result, MatchResult}
use Rattle.subject.specs.Problems.{Problem}
use Rattle.subject.specs.Runs.{IsLeast, NoLawfulRun}
use Rattle.subject.specs.declared.refusal.Refusal.{Refusal}
use Rattle.subject.specs.declared.refusal.Refusal.TheVariants.{NoRun}
use Rattle.subject.specs.declared.run.Request.{Request}
use Rattle.subject.specs.declared.run.Step.{Step}
use Rattle.search.specs.declared.check.RowCounts.{RowCounts}
use Rattle.planner.specs.Outcome.{PlanPasses, PlanCause}
use Rattle.planner.specs.declared.plan.Planned.{Planned}
use Rattle.plan_cases.specs.declared.kind.Asked.{Asked}

-- a request with none before it
abbrev pub request_only : Request → Asked
request_only q = record { before = None; request = q }

-- the answer over so many rows: a least run is in the first run rows, with its total; or the refusal names the first
-- cause before any search; or there is no lawful run
abbrev pub Answers : {C : Type 0} → Problem C → RowCounts → List Step → Result (Planned C) Refusal → Type 0
Answers P counts run r = MatchResult r
    (λ p. PlanPasses P counts × IsLeast P (take p.steps run) p.total)
    (λ e. PlanCause P counts e ⊎ ((e ≡ NoRun) × PlanPasses P counts × NoLawfulRun P))

-- What a plan for money answers, in the words of the minimum cost path problem with relays. Stands on that
-- problem, and on the causes for which a request is refused before any search.
use Rattle.std.specs.Prelude.{◌≡◌, ◌+◌, ◌*◌, ◌<◌, ◌≤◌, List, length, take, Result, MatchResult}
use Rattle.subject.specs.declared.money.TheConstants.{CEILING}
use Rattle.subject.specs.declared.money.Money.{Money}
use Rattle.subject.specs.declared.refusal.Refusal.{Refusal}
use Rattle.subject.specs.declared.refusal.Refusal.TheVariants.{NoRun}
use Rattle.subject.specs.declared.run.Step.{Step}
use Rattle.subject.specs.Moneys.{of_cents}
use Rattle.search.specs.declared.check.RowCounts.{RowCounts}
use Rattle.search.specs.Checks.{ChecksPass}
use Rattle.planner.specs.declared.plan.Planned.{Planned}
use Rattle.relays.specs.Problem.{RelayProblem, IsOptimal, NoneFeasible, value}

-- the run is an optimal path, and the total is what it costs to the cent. It has at most as many steps as there
-- are places with losses up to the bound, and it costs less than the largest sum of money, at which totals
-- stop.
pub record IsSolution (R : RelayProblem) (run : List Step) (total : Money) : Type 0 where
  pub optimal : IsOptimal R run
  pub short : length run ≤ length R.contents.places * (R.request.bound + 1)
  pub countable : value R.contents run < CEILING
  pub exact : total ≡ of_cents (value R.contents run)

-- the refusal e says that there is no run only if no path is feasible; and a request that passes the checks
-- gets no other
pub record IsRefused (R : RelayProblem) (counts : RowCounts) (e : Refusal) : Type 0 where
  pub none : e ≡ NoRun → NoneFeasible R
  pub only : ChecksPass (length R.contents.places) R.request counts → e ≡ NoRun

-- an answer: an optimal path in the first run rows with what it costs, or a refusal
abbrev pub IsAnswer : RelayProblem → RowCounts → List Step → Result (Planned Money) Refusal → Type 0
IsAnswer R counts run' r =
    MatchResult r (λ p. IsSolution R (take p.steps run') p.total) (λ e. IsRefused R counts e)

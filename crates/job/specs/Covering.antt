-- A bound that covers calls, so that rows for it are rows enough for each of their plans, and the largest bound of calls. Stands on
-- nothing but the calls.
use Rattle.std.specs.Prelude.{ℕ, ◌≤◌, cond, max, List, [], ◌∷◌, nat_lt}
use Rattle.job.specs.declared.list.Call.{Call}
use Rattle.job.specs.declared.list.Call.TheVariants.{Close, Reopen, Plan}
use Rattle.subject.specs.declared.run.TheConstants.{MOST_BOUND}

-- a plan with a bound that can be asked for has no larger one
abbrev pub Covers : ℕ → Call → Type 0
Covers bound (Close w) = Unit {0}
Covers bound (Reopen w) = Unit {0}
Covers bound (Plan q) = q.bound ≤ MOST_BOUND → q.bound ≤ bound

-- the larger of a bound and that of a call, if it is a plan with a bound that can be asked for; and so through a list of calls
abbrev pub larger : ℕ → Call → ℕ
larger bound (Close w) = bound
larger bound (Reopen w) = bound
larger bound (Plan q) = cond (nat_lt MOST_BOUND q.bound) bound (max bound q.bound)

abbrev pub largest : ℕ → List Call → ℕ
largest bound [] = bound
largest bound (c ∷ cs) = largest (larger bound c) cs

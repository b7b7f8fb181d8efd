-- What is written beside a call on a job, from what the call gave. Stands on nothing but the answers.
use Rattle.std.specs.Prelude.{Ok, Err, Result}
use Rattle.subject.specs.declared.refusal.Refusal.{Refusal}
use Rattle.planner.specs.declared.plan.Planned.{Planned}
use Rattle.job.specs.declared.list.Answer.{Answer}
use Rattle.job.specs.declared.list.Answer.TheVariants.{Done, Found, Refused}

-- beside a closing or a reopening, and beside a plan
abbrev pub of_change : {C : Type 0} → Result (Unit {0}) Refusal → Answer C
of_change (Ok u) = Done
of_change (Err e) = Refused e

abbrev pub of_plan : {C : Type 0} → Result (Planned C) Refusal → Answer C
of_plan (Ok p) = Found p
of_plan (Err e) = Refused e

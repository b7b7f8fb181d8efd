-- The view shows the survey, so the plan answers the problem with no way shut.
use Rattle.relays.proofs.Solving.{plan_answers}
use Rattle.relays.proofs.plan_for_money.Goals as goal

pub returns-clause-answer : goal.returns-clause-answer
returns-clause-answer g c =
    plan_answers c.args.survey.now c.args.request g.Q.PriorityQueue _ _ _ _ c.over.ensures c.plan.ensures.outcome

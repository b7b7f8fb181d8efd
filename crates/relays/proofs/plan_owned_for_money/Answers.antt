-- The view shows the survey, so the plan over owned rows, with whatever queue it comes to, answers the problem
-- with no way shut.
use Rattle.relays.proofs.Solving.{plan_answers}
use Rattle.relays.proofs.plan_owned_for_money.Goals as goal

pub returns-clause-answer : goal.returns-clause-answer
returns-clause-answer g c =
    plan_answers c.args.survey.now c.args.request g.Q.PriorityQueue _ _ _ _ c.over.ensures c.plan_owned.ensures.outcome.1

-- The job is over a view that shows the survey, and its closing book is empty before the first call.
use Rattle.relays.proofs.Solving.{owned_answers}
use Rattle.relays.proofs.replay_owned_for_money.Goals as goal

pub returns-clause-answer : goal.returns-clause-answer
returns-clause-answer g c =
    let tried = c.replay_owned in
    owned_answers c.args.survey.now c.args.request g.Q.PriorityQueue _ _ _ _ c.over.ensures c.args.queue c.args.rows.now tried.new.rows
    tried.ensures.ok

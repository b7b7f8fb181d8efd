-- The job is over a sealed survey, and its closing book is the set of shut ways.
use Rattle.std.proofs.Common.{refl}
use Rattle.job.specs.Jobs.{closed_by, site_below}
use Rattle.relays.proofs.Solving.{replay_answers}
use Rattle.relays.proofs.replay_on_owned_for_money.Goals as goal

pub returns-clause-answer : goal.returns-clause-answer
returns-clause-answer g c =
    let job = c.args.job.now in
    replay_answers (site_below job).survey.now (closed_by job) c.args.request g.Q.PriorityQueue _ _ _ _ _ _ refl
    c.replay_on_owned.ensures.replayed.1

-- the queue stays in order
use Rattle.benches.proofs.queue.churn.Given as goal

abbrev pub invariant-loop-step : goal.invariant-loop-step
invariant-loop-step g l = g.Q.PriorityQueue.is_ordered l.queue

-- the queue stays in order
use Rattle.benches.proofs.queue.take_all.Given as goal

abbrev pub invariant-loop-place : goal.invariant-loop-place
invariant-loop-place g l = g.Q.PriorityQueue.is_ordered l.queue

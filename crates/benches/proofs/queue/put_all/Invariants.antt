-- the queue stays in order
use Rattle.benches.proofs.queue.put_all.Given as goal

abbrev pub invariant-loop-cell : goal.invariant-loop-cell
invariant-loop-cell g l = g.Q.PriorityQueue.is_ordered l.queue

-- the cell at `i` may belong lower, and all else is in order
use Rattle.std.proofs.Common.{◌-◌}
use Rattle.tree_queue.specs.Queues.{IsSinkingAt, SameWaiting}
use Rattle.tree_queue.proofs.queue.TreeQueue.sift_down.Given as goal

abbrev pub invariant-loop-first : goal.invariant-loop-first
invariant-loop-first g l = record {
  sinking : IsSinkingAt g.L.Layout g.C.Charge l.self l.i;
  same : SameWaiting l.initial.self l.self;
}

abbrev pub decreases-loop-first : goal.decreases-loop-first
decreases-loop-first g l = l.self.len - l.i

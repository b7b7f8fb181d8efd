-- the cell at `i` may belong higher, and all else is in order
use Rattle.std.proofs.Common.{◌<◌}
use Rattle.tree_queue.specs.Queues.{IsRisingAt, SameWaiting}
use Rattle.tree_queue.proofs.queue.TreeQueue.sift_up.Given as goal

abbrev pub invariant-loop-i : goal.invariant-loop-i
invariant-loop-i g l = record {
  waits : l.i < l.self.len;
  rising : IsRisingAt g.L.Layout g.C.Charge l.self l.i;
  same : SameWaiting l.initial.self l.self;
}

abbrev pub decreases-loop-i : goal.decreases-loop-i
decreases-loop-i g l = l.i

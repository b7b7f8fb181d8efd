-- the cells and their positions stay
use Rattle.std.proofs.Common.{length-set}
use Rattle.tree_queue.proofs.Columns.{cells-with_charge, positions-with_charge}
use Rattle.tree_queue.proofs.queue.TreeQueue.set_charge.Goals as goal

pub invariant_of-self : goal.invariant_of-self
invariant_of-self g c =
    let queue = c.args.self.now in
    record {
      placement = simp (length-set, cells-with_charge, positions-with_charge) queue.placement;
      len_in_rows = simp length-set queue.len_in_rows;
    }

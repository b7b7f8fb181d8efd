-- the rows before `i` hold their own numbers
use Rattle.std.proofs.Common.{◌≡◌}
use Rattle.tree_queue.specs.Order.{IsOwnPlacement}
use Rattle.tree_queue.specs.Rows.{cells, positions, charges}
use Rattle.tree_queue.proofs.queue.set_out.Given as goal

abbrev pub invariant-loop-i : goal.invariant-loop-i
invariant-loop-i g l = (charges l.rows ≡ charges l.initial.rows) × IsOwnPlacement l.i (cells l.rows) (positions l.rows)

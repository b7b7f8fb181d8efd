-- An offer is written where it improves the cell, and the queue has room for it; else the cell is held with no more already.
use Rattle.std.proofs.Common.{◌<◌, length, sym, arith}
use Rattle.search.specs.Columns.{cells_of}
use Rattle.search.proofs.Tables.{offered_over, offered_none, nth_column}
use lib.ListN.{length-map}
use Rattle.planner.proofs.workspace.Workspace.offer.Goals as goal

pub returns-then-is_better-clause-offered : goal.returns-then-is_better-clause-offered
returns-then-is_better-clause-offered g c =
    let rows = c.args.self.now.cells.now in
    let size = length-map rows (λ r. r.cell) in
    let inside : c.args.at < length (cells_of rows) = omega (arith, c.requires.inside) in
    let waits = g.Q.PriorityQueue.waits c.args.self.now.queue.now in
    let waits' = g.Q.PriorityQueue.waits c.wait.new.self.queue.now in
    rw c.wait.ensures.cells (offered_over _ (g.met.C.Charge.laws) (cells_of rows) waits waits' c.args.at _ c.args.new inside (nth_column (λ r. r.cell) rows c.args.at c.index-self-at.result c.requires.inside) c.requires.agree (sym c.if-is_better.ensures) c.wait.ensures.put)

pub returns-else-is_better-clause-offered : goal.returns-else-is_better-clause-offered
returns-else-is_better-clause-offered g c =
    let rows = c.args.self.now.cells.now in
    let waits = g.Q.PriorityQueue.waits c.args.self.now.queue.now in
    let size = length-map rows (λ r. r.cell) in
    let inside : c.args.at < length (cells_of rows) = omega (arith, c.requires.inside) in
    offered_none _ (g.met.C.Charge.laws) (cells_of rows) waits waits c.args.at _ c.args.new inside (nth_column (λ r. r.cell) rows c.args.at c.index-self-at.result c.requires.inside) c.requires.agree (sym c.if-is_better.ensures) c.requires.low

-- the charge is written, the cell goes behind those that wait, and then up
use Rattle.tree_queue.proofs.Columns.{read}
use Rattle.tree_queue.proofs.Entry.{rises, waits}
use Rattle.tree_queue.proofs.queue.TreeQueue.enter.Goals as goal

pub sift_up-requires-clause-rising : goal.sift_up-requires-clause-rising
sift_up-requires-clause-rising g c =
    let need = c.requires in
    let moved = c.exchange.ensures in
    rises g.L.Layout g.C.Charge g.met.L.Layout.is_tree need.order need.cell need.apart c.set_charge.ensures
    (read (λ r. r.position) c.args.self.now.rows.now c.args.cell c.index-self-cell.result 0 need.cell) moved.same moved.exchange

pub returns-clause-put : goal.returns-clause-put
returns-clause-put g c =
    let need = c.requires in
    let moved = c.exchange.ensures in
    let up = c.sift_up.ensures.same in
    waits g.L.Layout g.C.Charge g.met.L.Layout.is_tree need.order need.cell need.apart c.set_charge.ensures
    (read (λ r. r.position) c.args.self.now.rows.now c.args.cell c.index-self-cell.result 0 need.cell) moved.same moved.exchange
    c.sift_up.new.self up.rows.len up.rows.same_charges up.wait

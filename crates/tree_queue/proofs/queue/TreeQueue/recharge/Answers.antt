-- the charge is written; the cell goes up where it may be above the old charge, else down
use Rattle.std.proofs.Common.{sym}
use Rattle.tree_queue.proofs.Columns.{read}
use Rattle.tree_queue.proofs.Recharge.{rises, sinks, recharged}
use Rattle.tree_queue.proofs.queue.TreeQueue.recharge.Goals as goal

pub sift_up-requires-clause-rising : goal.sift_up-requires-clause-rising
sift_up-requires-clause-rising g c =
    let need = c.requires in
    let rows = c.args.self.now.rows.now in
    rises g.L.Layout g.C.Charge g.met.L.Layout.is_tree g.met.C.Charge.laws need.order need.cell need.waits c.set_charge.ensures
    (read (λ r. r.position) rows c.args.cell c.index-self-cell-2.result 0 need.cell)
    (λ d. read (λ r. r.charge) rows c.args.cell c.index-self-cell.result d need.cell) (sym c.if-may_be_above.ensures)

pub sift_down-requires : goal.sift_down-requires
sift_down-requires g c =
    let need = c.requires in
    let rows = c.args.self.now.rows.now in
    sinks g.L.Layout g.C.Charge g.met.L.Layout.is_tree g.met.C.Charge.laws need.order need.cell need.waits c.set_charge.ensures
    (read (λ r. r.position) rows c.args.cell c.index-self-cell-2.result 0 need.cell)
    (λ d. read (λ r. r.charge) rows c.args.cell c.index-self-cell.result d need.cell) (sym c.if-may_be_above.ensures)

pub returns-then-may_be_above-clause-put : goal.returns-then-may_be_above-clause-put
returns-then-may_be_above-clause-put g c =
    let need = c.requires in
    recharged need.cell need.waits c.set_charge.ensures c.sift_up.ensures.same

pub returns-else-may_be_above-clause-put : goal.returns-else-may_be_above-clause-put
returns-else-may_be_above-clause-put g c =
    let need = c.requires in
    recharged need.cell need.waits c.set_charge.ensures c.sift_down.ensures.same

-- the cell on top and the last that waits are exchanged, and the one now on top goes down
use Rattle.std.proofs.Common.{◌≡◌, ℕ, ◌-◌, ◌<◌, length, get_or, ap, ◌∙◌, subst, arith}
use lib.ListN.{length-map}
use Rattle.tree_queue.specs.Order.{SameWait}
use Rattle.tree_queue.specs.Queues.{IsExchanged}
use Rattle.tree_queue.specs.Rows.{charges, positions}
use Rattle.tree_queue.proofs.Columns.{read, cell_inside}
use Rattle.tree_queue.proofs.Ordered.{columns_of}
use Rattle.tree_queue.proofs.Ranks.{ranks}
use Rattle.tree_queue.proofs.Top.{top_taken}
use Rattle.tree_queue.proofs.queue.TreeQueue.take_top.Goals as goal

pub returns-clause-some : goal.returns-clause-some
returns-clause-some g c =
    let queue = c.args.self.now in
    let rows = queue.rows.now in
    let mid = c.exchange.new.self in
    let last = positions c.sift_down.new.self.rows.now in
    let len = queue.len in
    let is : c.in_ok-last.last ≡ len - 1 = omega (arith, c.in_ok-last.ensures) in
    let some : 0 < len = omega (arith, c.in_ok-last.ensures) in
    let first : 0 < length rows = omega (arith, queue.len_in_rows) in
    let down = c.sift_down.ensures.same in
    let inside = cell_inside rows 0 c.index-self-0.result queue.placement first in
    let top = read (λ r. r.cell) rows 0 c.index-self-0.result 0 first in
    let x = subst (λ (j : ℕ). IsExchanged queue mid 0 j) is c.exchange.ensures.exchange in
    let wait = subst (λ (j : ℕ). SameWait j (positions mid.rows.now) last) is down.wait in
    let p = top_taken g.met.L.Layout.is_tree (columns_of g.L.Layout g.C.Charge queue c.requires) some x (ranks g.met.C.Charge.laws g.L.Layout.highest_on_top) _
    (λ d. read (λ r. r.charge) rows _ c.index-self-cell.result d inside ∙ ap (λ m. get_or (charges rows) m d) top) (length-map rows (λ r. r.charge)) last wait in
    rw (down.rows.len, is, down.rows.same_charges ∙ c.exchange.ensures.same.same_charges) (rw (← top) at p)

-- each turn is one step of a climb, which ends where the cell above may be there, or at the top
use Rattle.std.proofs.Common.{ℕ, ◌<◌, sym, subst, arith}
use Rattle.tree_queue.specs.Queues.{IsExchanged, IsRisingAt}
use Rattle.tree_queue.specs.Rows.{charges}
use Rattle.tree_queue.proofs.Climb.{risen}
use Rattle.tree_queue.proofs.Ordered.{still_wait}
use Rattle.tree_queue.proofs.Ranks.{ranks, ahead_transitive}
use Rattle.tree_queue.proofs.queue.TreeQueue.sift_up.Goals as goal

pub loop-i-preserved : goal.loop-i-preserved
loop-i-preserved g c =
    let l = g.L.Layout in
    let tree = g.met.L.Layout.is_tree in
    let r = ranks g.met.C.Charge.laws l.highest_on_top in
    let inv = c.loop-i.invariant in
    let queue = c.loop-i.self in
    let last = c.exchange.new.self in
    let i = c.loop-i.i in
    let is = c.parent-up.ensures in
    let pos : 0 < i = omega arith in
    let lower = tree.earlier i pos in
    let same = c.exchange.ensures.same in
    let x = subst (λ (m : ℕ). IsExchanged queue last m i) is c.exchange.ensures.exchange in
    let up = risen tree (ahead_transitive r (charges queue.rows.now)) pos inv.waits x inv.rising
    (λ d. let e = c.if-is_ahead.ensures d in r.total _ _ (cc)) in
    record {
      waits = omega (arith, same.len);
      rising = subst (λ (m : ℕ). IsRisingAt l g.C.Charge last m) (sym is) (rw (same.same_charges, same.len) up);
      same = still_wait inv.same same x (omega arith) inv.waits;
    }

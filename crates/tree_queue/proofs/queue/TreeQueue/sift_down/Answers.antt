-- each turn is one step of a fall, which ends where the foremost below may be there, or where nothing is below
use Rattle.std.proofs.Common.{arith}
use Rattle.tree_queue.specs.Rows.{charges}
use Rattle.tree_queue.proofs.Ordered.{still_wait}
use Rattle.tree_queue.proofs.Ranks.{ranks, ahead_transitive}
use Rattle.tree_queue.proofs.Sink.{sunk, at_rest}
use Rattle.tree_queue.proofs.queue.TreeQueue.sift_down.Goals as goal

pub returns-then-is_ahead-clause-order : goal.returns-then-is_ahead-clause-order
returns-then-is_ahead-clause-order g c =
    let r = ranks g.met.C.Charge.laws g.L.Layout.highest_on_top in
    let queue = c.loop-first.self in
    at_rest g.met.L.Layout.is_tree (ahead_transitive r (charges queue.rows.now)) c.foremost-low.ensures c.loop-first.invariant.sinking
    (λ d. let e = c.if-is_ahead.ensures d in cc)

pub loop-first-preserved : goal.loop-first-preserved
loop-first-preserved g c =
    let r = ranks g.met.C.Charge.laws g.L.Layout.highest_on_top in
    let inv = c.loop-first.invariant in
    let queue = c.loop-first.self in
    let below = c.foremost-low.ensures in
    let after = below.after in
    let in_len = below.before_len in
    let same = c.exchange.ensures.same in
    let x = c.exchange.ensures.exchange in
    let down = sunk g.met.L.Layout.is_tree (ahead_transitive r (charges queue.rows.now)) below x inv.sinking
    (λ d. let e = c.if-is_ahead.ensures d in r.total _ _ (cc)) in
    record {
      sinking = rw (same.same_charges, same.len) down;
      same = still_wait inv.same same x (omega arith) in_len;
    }

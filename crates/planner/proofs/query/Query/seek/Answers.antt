-- Each turn settles one more row, so the loop ends. A taken cell of the end has the lowest total; where nothing waits no run is
-- lawful; any other cell is settled and its ways are offered, which keeps the state.
use Rattle.std.proofs.Common.{◌≡◌, ℕ, true, false, is_some, refl, ap, arith}
use Rattle.search.proofs.Covers.{no_run}
use Rattle.search.proofs.Turns.{taken_inside, taken_reached, taken_short, taken_found, settle_turn, settle_count}
use Rattle.planner.proofs.Kept.{one_more, ready_kept}
use lib.ListN.{length-map}
use Rattle.planner.proofs.query.Query.seek.Goals as goal

not_true : false ≡ true → ⊥
not_true e = let z : ◌≡◌ {A = ℕ} 0 1 = cc in omega arith

pub returns-then-is_end : goal.returns-then-is_end
returns-then-is_end g c =
    let inv = c.loop-at.invariant in
    let took = c.in-Some.ensures in
    record {
      same = one_more inv.same (record { cells = refl; queue = refl; cell_count = refl; rows = took.same });
      none = tt;
      some = taken_found _ g.met.S.Charge.Charge.laws _ _ _ _ _ inv.rest.books took.some inv.rest.searching (c.if-is_end.ensures.0 refl);
    }

pub settle-here-requires : goal.settle-here-requires
settle-here-requires g c =
    let inv = c.loop-at.invariant in
    let size = length-map c.loop-at.work.cells.now (λ r. r.cell) in
    let taken = c.in-Some.ensures.some in
    let inside = taken_inside _ g.met.S.Charge.Charge.laws _ _ _ _ _ inv.rest.books taken in
    record { inside = omega arith; reached = ap is_some (taken_reached _ g.met.S.Charge.Charge.laws _ _ _ _ _ inv.rest.books taken) }

pub visit-requires : goal.visit-requires
visit-requires g c =
    let inv = c.loop-at.invariant in
    let took = c.in-Some.ensures in
    let settled = c.settle-here.ensures in
    let inside = taken_inside _ g.met.S.Charge.Charge.laws _ _ _ _ _ inv.rest.books took.some in
    let size = length-map c.loop-at.work.cells.now (λ r. r.cell) in
    record {
      ready = ready_kept inv.ready (record { cells = refl; queue = refl; cell_count = c.settle-here.auto.cells; rows = took.same }) took.ordered settled.index;
      inside = omega (arith, c.settle-here.auto.cells);
      turn = settle_turn _ g.met.S.Charge.Charge.laws _ _ _ _ _ _ _ inside inv.rest.books took.some settled.settling inv.rest.searching (λ e. not_true (c.if-is_end.ensures.1 e));
    }

pub loop-at-smaller : goal.loop-at-smaller
loop-at-smaller g c =
    let inv = c.loop-at.invariant in
    let taken = c.in-Some.ensures.some in
    let inside = taken_inside _ g.met.S.Charge.Charge.laws _ _ _ _ _ inv.rest.books taken in
    let short = taken_short _ g.met.S.Charge.Charge.laws _ _ _ _ _ inv.rest.books taken in
    let more = settle_count _ g.met.S.Charge.Charge.laws _ _ _ _ _ _ _ inside inv.rest.books taken c.settle-here.ensures.settling in
    let same = c.visit.ensures.still.count in
    let size = length-map c.loop-at.work.cells.now (λ r. r.cell) in
    omega (arith, inv.same.cell_count)

pub returns : goal.returns
returns g c =
    let inv = c.loop-at.invariant in
    let gave = c.in_default.ensures in
    record {
      same = one_more inv.same (record { cells = refl; queue = refl; cell_count = refl; rows = gave.same });
      some = tt;
      none = no_run _ g.met.S.Charge.Charge.laws _ _ inv.rest.searching gave.none.0;
    }

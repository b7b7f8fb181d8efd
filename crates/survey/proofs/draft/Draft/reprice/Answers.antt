-- The way that is lent is the one of that number, and with another price it stays good.
use Rattle.std.proofs.Common.{is_ok, vec_items, vec_len, sym, ap}
use Rattle.survey.proofs.Good.{ways_priced, lent_at}
use Rattle.survey.proofs.draft.Draft.reprice.Goals as goal

pub invariant_of-self-2-clause-good_ways : goal.invariant_of-self-2-clause-good_ways
invariant_of-self-2-clause-good_ways c =
    let before = c.args.self.now in
    let ways = before.table.ways in
    let lent = c.way_mut in
    let way = c.in_ok-way.way in
    let at =
    lent_at (λ w. w.now) (vec_items ways) (vec_len ways) c.args.number lent.result way ways.ok.0
    lent.ensures.found lent.ensures.way c.in_ok-way.ensures.ok_part in
    let dear = ap is_ok (sym c.in_ok-check_price.ensures) in
    ways_priced (vec_len before.places) (vec_items ways) c.args.number way.now c.args.price before.good_ways at dear

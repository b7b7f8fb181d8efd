-- Every way is offered: those past the index one by one, the others along the index from the largest down, between whose
-- links no way leaves the place; so the next cell can be taken.
use Rattle.std.proofs.Common.{◌≡◌, ℕ, ◌+◌, ◌<◌, min, None, Option, length, get_or, sym, ap, ◌∙◌, subst, inl, inr, arith, rules}
use Rattle.std.proofs.lemmas.Bool.{cases_eq, cases_lt}
use Rattle.planner.specs.Workspaces.{problem}
use Rattle.search.specs.Cells.{place_of}
use Rattle.search.specs.Search.{IsOffered}
use Rattle.search.specs.Rows.{done_in}
use Rattle.search.specs.Columns.{cells_of, heads_of}
use Rattle.search.specs.Index.{IsLargestOrNone}
use Rattle.search.proofs.Tables.{read_column}
use Rattle.search.proofs.Covers.{expanded}
use Rattle.search.proofs.Trails.{place_below}
use Rattle.search.proofs.Walks.{left_of, idle_offered, walked, largest_below, largest_none, largest_leaves}
use Rattle.planner.proofs.Kept.{still_untouched, still_more}
use Rattle.planner.proofs.query.Query.expand.Given as given
use Rattle.planner.proofs.query.Query.expand.Goals as goal

pub loop-n-preserved : goal.loop-n-preserved
loop-n-preserved g c =
    let inv = c.loop-n.invariant in
    let e = c.offer_way.ensures.still in
    let P = problem c.args.self.now in
    let rows = cells_of c.offer_way.new.work.cells.now in
    let waits = g.Q.PriorityQueue.waits c.offer_way.new.work.queue.now in
    record {
      still = still_more inv.still e.rows;
      turn = e.turn;
      offered = λ i a b. elim (cases_eq i c.loop-n.n) [
        | inl q ↦ subst (λ (z : ℕ). IsOffered P (done_in rows) waits c.args.from.at c.args.from.here.charge z) (sym q) c.offer_way.ensures.offered
        | inr ne ↦ (λ mark w v. e.keeps _ _ _ (inv.offered i a (omega arith) mark w v))
      ];
    }

pub loop-after-init : goal.loop-after-init
loop-after-init g c =
    let P = problem c.args.self.now in
    let inv = c.loop-n.invariant in
    let limit = c.min-limit.result in
    let p = place_of (problem c.args.self.now) c.args.from.at in
    let lim : min P.site.ways (length c.loop-n.work.cells.now) ≡ limit = sym (c.min-limit.ensures ∙ ap (λ (z : ℕ). min z (length c.args.work.now.cells.now)) c.ways-ways.ensures ∙ ap (λ (z : ℕ). min P.site.ways z) (sym inv.still.same.cell_count)) in
    let rows = c.loop-n.work.cells.now in
    let inside : c.place_of.result < length rows = omega (arith, place_below (problem c.args.self.now) c.args.from.at, c.place_of.ensures, c.requires.inside, inv.still.same.cell_count) in
    let e = read_column (λ r. r.head) rows c.place_of.result c.index-work-place_of.result None inside ∙ ap (λ (z : ℕ). get_or (heads_of rows) z None) c.place_of.ensures in
    let l = subst (λ (z : Option ℕ). IsLargestOrNone P.site p limit z) (sym e) (subst (λ (z : ℕ). IsLargestOrNone P.site p z (get_or (heads_of rows) p None)) lim (inv.still.ready.indexed.of_place p)) in
    record {
      still = still_untouched inv.still.ready;
      turn = inv.turn;
      offered = λ i a b. elim (cases_lt i limit) [
        | inl h ↦ idle_offered P g.met.S.Charge.Charge.laws _ _ _ _ i (largest_none P.site p limit _ l i a h)
        | inr h ↦ inv.offered i h (omega arith)
      ];
      under = largest_below P.site p limit _ l;
      leaves = largest_leaves P.site p limit _ l;
    }

-- the link behind the way that was offered: below it stands the next smaller way that leaves the place
link : (g : given.Over) (c : goal.After-index-work-way g)
    → IsLargestOrNone (problem c.args.self.now).site (place_of (problem c.args.self.now) c.args.from.at) c.in-Some.way (get_or c.offer_way-in-Some.new.work.cells.now c.in-Some.way c.index-work-way.result).next
link g c =
    let P = problem c.args.self.now in
    let inv = c.loop-after.invariant in
    let o = c.offer_way-in-Some in
    let p = place_of (problem c.args.self.now) c.args.from.at in
    let way = c.in-Some.way in
    let rows = o.new.work.cells.now in
    let same = c.loop-n.invariant.still.same.cell_count in
    let lim : c.min-limit.result ≡ min P.site.ways (length rows) = c.min-limit.ensures ∙ ap (λ (z : ℕ). min z (length c.args.work.now.cells.now)) c.ways-ways.ensures ∙ ap (λ (z : ℕ). min P.site.ways z) (sym (o.ensures.still.rows.same.cell_count ∙ inv.still.same.cell_count ∙ same)) in
    let here : left_of c.loop-after.after ≡ way + 1 = ap left_of c.in-Some.is in
    let under : way < min P.site.ways (length rows) = (let h = inv.under in omega arith) in
    let e = read_column (λ r. r.next) rows way c.index-work-way.result None (omega arith) in
    subst (λ (z : Option ℕ). IsLargestOrNone P.site p way z) (sym e) (o.ensures.still.rows.ready.indexed.of_way way p under (inv.leaves way c.in-Some.is))

pub offset_bounds-work-way : goal.offset_bounds-work-way
offset_bounds-work-way g c =
    let here : left_of c.loop-after.after ≡ c.in-Some.way + 1 = ap left_of c.in-Some.is in
    let inside : c.in-Some.way < length c.args.work.now.cells.now = (let h = c.loop-after.invariant.under in let a = c.min-limit.ensures in omega arith) in
    search rules

pub loop-after-smaller : goal.loop-after-smaller
loop-after-smaller g c =
    let here : left_of c.loop-after.after ≡ c.in-Some.way + 1 = ap left_of c.in-Some.is in
    let below = largest_below _ _ _ _ (link g c) in
    omega arith

pub loop-after-preserved : goal.loop-after-preserved
loop-after-preserved g c =
    let inv = c.loop-after.invariant in
    let o = c.offer_way-in-Some.ensures in
    let l = link g c in
    let here : left_of c.loop-after.after ≡ c.in-Some.way + 1 = ap left_of c.in-Some.is in
    let below = largest_below _ _ _ _ l in
    record {
      still = still_more inv.still o.still.rows;
      turn = o.still.turn;
      offered = walked _ g.met.S.Charge.Charge.laws _ _ _ _ _ _ _ c.in-Some.way _ o.still.keeps (λ i a b. inv.offered i (omega arith) b) o.offered l;
      under = (let h = inv.under in omega arith);
      leaves = largest_leaves _ _ _ _ l;
    }

pub returns : goal.returns
returns g c =
    let inv = c.loop-after.invariant in
    let w = c.ways-ways.ensures in
    record {
      still = still_more c.loop-n.invariant.still inv.still;
      rest = record {
        searching = expanded _ g.met.S.Charge.Charge.laws _ _ _ _ (g.S.Site.is_bounded c.args.self.now.site.now) inv.turn.expanding (λ i h. inv.offered i (let none : left_of c.loop-after.after ≡ 0 = ap left_of c.in_default.is in omega arith) (omega arith));
        books = inv.turn.books;
      };
    }

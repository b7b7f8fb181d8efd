-- The offer to the cell where a lawful step leads: there is room for it since the step's place and loss are those of a cell; its
-- charge is no less than that of the cell it comes from, since joining never lowers; so the state is kept and the cell covered.
use Rattle.std.proofs.Common.{◌≡◌, ℕ, ◌+◌, ◌*◌, ◌<◌, ◌≤◌, true, length, Some, sym, refl, ap, ◌∙◌, subst, arith}
use Rattle.planner.specs.Workspaces.{problem}
use Rattle.subject.specs.Runs.{loss_after}
use Rattle.search.specs.Cells.{loss_of}
use Rattle.search.specs.Search.{IsCovered}
use Rattle.search.specs.Rows.{IsNext, done_in}
use Rattle.search.specs.declared.cell.Reached.{Reached}
use Rattle.search.specs.Columns.{cells_of}
use Rattle.search.proofs.Covers.{step_rises}
use Rattle.search.proofs.Turns.{offer_turn, offer_count, offer_covered_at, offer_covered_on, count_most}
use Rattle.search.proofs.Trails.{cell_place, cell_loss, after_low}
use Rattle.planner.proofs.Kept.{ready_kept}
use Rattle.planner.proofs.query.Query.arrive.Goals.{After-charge_after-charge}
use lib.Arith.{digits_lt}
use lib.ListN.{length-map}
use Rattle.planner.proofs.query.Query.arrive.Given as given
use Rattle.planner.proofs.query.Query.arrive.Goals as goal

pub overflow_add-here : goal.overflow_add-here
overflow_add-here g c =
    let f = c.requires.turn.books.fewer _ _ c.requires.turn.row in
    let n = count_most ((cells_of c.args.work.now.cells.now)) in
    let size = length-map c.args.work.now.cells.now (λ r. r.cell) in
    omega (arith, c.requires.ready.room.fits)

-- the step arrives with the loss of its cell, which is at most the bound
lost : (g : given.Over) (c : After-charge_after-charge g) → c.loss_after-loss.result ≡ loss_after c.args.step.mark (loss_of (problem c.args.self.now) c.args.from.at + c.args.w.loss)
lost g c = c.loss_after-loss.ensures ∙ ap (λ (z : ℕ). loss_after c.args.step.mark (z + c.args.w.loss)) c.loss_of.ensures.same

low : (g : given.Over) (c : After-charge_after-charge g) → c.loss_after-loss.result ≤ c.args.self.now.request.bound
low g c = after_low (problem c.args.self.now) c.args.step.mark _ _ c.requires.goes.arrives (lost g c)

-- the cell where the step leads is one of the request's cells
one_of : (g : given.Over) (c : After-charge_after-charge g) → c.cell_of-target.result < (problem c.args.self.now).site.places * (c.args.self.now.request.bound + 1)
one_of g c =
    let l = low g c in
    let h : c.loss_after-loss.result < c.args.self.now.request.bound + 1 = omega arith in
    let lt = digits_lt ((g.S.Site.is_bounded c.args.self.now.site.now).to_in _ _ c.requires.goes.opens) h in
    omega (arith, c.cell_of-target.ensures)

-- it is reached with no less than the cell that the step comes from
up : (g : given.Over) (c : After-charge_after-charge g) → g.S.Charge.Charge.no_more c.args.from.here.charge c.charge_after-charge.result ≡ true
up g c =
    subst (λ z. g.S.Charge.Charge.no_more c.args.from.here.charge z ≡ true) (sym c.charge_after-charge.ensures)
    (step_rises (problem c.args.self.now) g.met.S.Charge.Charge.laws c.args.from.here.charge c.args.step.mark (Some c.args.w))

pub offer-requires : goal.offer-requires
offer-requires g c =
    let r = c.requires.ready.room in
    let before = (goal.at.offer-requires g c).After-charge_after-charge in
    let one = one_of g before in
    record {
      inside = omega (arith, r.cells_suffice);
      room = omega (arith, r.queue_suffices);
      ordered = c.requires.ready.ordered;
      agree = c.requires.turn.books.agree;
      low = λ e q. (g.met.S.Charge.Charge.laws).transitive e c.args.from.here.charge _ (c.requires.turn.expanding.below c.cell_of-target.result e q) (up g before);
    }

pub returns : goal.returns
returns g c =
    let laws = g.met.S.Charge.Charge.laws in
    let before = (goal.at.returns g c).After-charge_after-charge in
    let P = problem c.args.self.now in
    let turn = c.requires.turn in
    let rows = (cells_of c.args.work.now.cells.now) in
    let rows' = (cells_of c.offer.new.self.cells.now) in
    let waits = g.Q.PriorityQueue.waits c.args.work.now.queue.now in
    let waits' = g.Q.PriorityQueue.waits c.offer.new.self.queue.now in
    let at = c.cell_of-target.result in
    let new : Reached g.row.S-Charge.Denot = record { charge = c.charge_after-charge.result; link = Some (record { from = c.args.from.at; step = c.args.step }); steps = c.args.from.here.steps + 1 } in
    let size = length-map c.args.work.now.cells.now (λ r. r.cell) in
    let inside : at < length rows = omega (arith, one_of g before, c.requires.ready.room.cells_suffice) in
    let place = cell_place (problem c.args.self.now) c.args.w.to _ at (low g before) c.cell_of-target.ensures in
    let loss = cell_loss (problem c.args.self.now) c.args.w.to _ at (low g before) c.cell_of-target.ensures ∙ lost g before in
    let next : IsNext P rows at new = record {
      by = record { from = c.args.from.at; step = c.args.step };
      link = refl;
      before = c.args.from.here;
      row = turn.row;
      over = c.args.w;
      goes = c.requires.goes;
      place = place;
      loss = loss;
      charge = c.charge_after-charge.ensures;
      steps = refl;
    } in
    let o = c.offer.ensures.offered in
    record {
      still = record {
        rows = record {
          ready = ready_kept c.requires.ready c.offer.ensures.same c.offer.ensures.ordered c.offer.ensures.index;
          same = c.offer.ensures.same;
          count = offer_count P laws rows rows' waits waits' at new inside o;
        };
        turn = offer_turn P laws rows rows' waits waits' at new inside o c.args.from.at c.args.from.here turn (up g before) next (let f = turn.books.fewer _ _ turn.row in omega arith);
        keeps = λ p l sum h. offer_covered_on P laws rows rows' waits waits' at new inside o p l sum h;
      };
      covered = subst (λ z. IsCovered P (done_in rows') waits' c.args.w.to (loss_after c.args.step.mark (loss_of (problem c.args.self.now) c.args.from.at + c.args.w.loss)) z) c.charge_after-charge.ensures
          (offer_covered_at P laws rows rows' waits waits' at new inside o c.args.w.to _ place loss);
    }

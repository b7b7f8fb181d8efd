-- All that makes the hinted cell a dominating one has been tested.
use Rattle.std.proofs.Common.{◌≡◌, ℕ, IsSome, Some, None, Option, refl, ap, ◌∙◌, arith}
use Rattle.search.proofs.Tables.{nth_column}
use Rattle.search.specs.Rows.{settled_row, done_in}
use Rattle.planner.proofs.query.Query.is_dominated.Goals as goal

charge_of : {C : Type 0} (o : Option C) → IsSome o → (c : C) × (o ≡ Some c)
charge_of None h = absurd (let z : ◌≡◌ {A = ℕ} 0 1 = cc in omega arith)
charge_of (Some c) h = (c, refl)

pub returns : goal.returns
unfolding done_in
returns g c = λ e.
    let cell = nth_column (λ r. r.cell) c.args.work.now.cells.now c.in-Some.hint c.index-work-hint.result (omega arith) in
    let d = charge_of _ (c.is_settled.ensures e) in
    record {
      cell = c.in-Some.hint;
      charge = d.0;
      settled = ap settled_row cell ∙ d.1;
      apart = c.if-hint-at.false;
      place = omega (arith, c.place_of.ensures, c.place_of-place.ensures);
      loss = omega (arith, c.loss_of.ensures.same, c.loss_of-else-place_of-place.ensures.same);
    }

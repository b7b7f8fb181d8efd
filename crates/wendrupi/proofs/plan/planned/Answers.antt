-- There are as many rows of each sort as the plan needs, and the run is in the first run rows.
use Rattle.std.proofs.Common.{length, Ok, Err, ap, ◌∙◌, sym, subst}
use Rattle.std.proofs.lemmas.List.{length-replicate}
use Rattle.wendrupi.specs.Runs.{problem_over, row_count, RunFound, RunRefused}
use Rattle.wendrupi.proofs.Planning.{owned_counts, plan_comes}
use Rattle.wendrupi.proofs.plan.planned.Goals as goal

pub returns-in-Ok : goal.returns-in-Ok
returns-in-Ok g c =
    let n = c.row_count-count.result in
    let held = c.in_ok-rows.ensures in
    let blank = c.deref_mut.ensures.value ∙ c.in_ok-queue_rows.ensures in
    let queue = c.over-queue.ensures.row_count ∙ ap length blank ∙ length-replicate n _ in
    let places = c.places.ensures.value ∙ ap (λ k. length k.places) (sym c.over.ensures) in
    let rows = c.row_count-count.ensures ∙ ap (λ p. row_count p c.args.request.bound) places in
    subst (λ k. RunFound (problem_over g.K.Charge g.K.Charged.of_way g.K.Charged.of_repeater k c.args.request) c.run_in.result)
    c.over.ensures
    (plan_comes _ _ _ _ n (Ok c.in-Ok.planned) rows (owned_counts n _ _ _ _ _ held.cells queue held.run) c.in-Ok.ensures.outcome.1
    c.run_in.result c.run_in.ensures.steps c.run_in.ensures.total)

pub returns-in-Err : goal.returns-in-Err
returns-in-Err g c =
    let n = c.row_count-count.result in
    let held = c.in_ok-rows.ensures in
    let blank = c.deref_mut.ensures.value ∙ c.in_ok-queue_rows.ensures in
    let queue = c.over-queue.ensures.row_count ∙ ap length blank ∙ length-replicate n _ in
    let places = c.places.ensures.value ∙ ap (λ k. length k.places) (sym c.over.ensures) in
    let rows = c.row_count-count.ensures ∙ ap (λ p. row_count p c.args.request.bound) places in
    subst (λ k. RunRefused (problem_over g.K.Charge g.K.Charged.of_way g.K.Charged.of_repeater k c.args.request) c.in-Err.refusal)
    c.over.ensures
    (plan_comes _ _ _ _ n (Err c.in-Err.refusal) rows (owned_counts n _ _ _ _ _ held.cells queue held.run) c.in-Err.ensures.outcome.1)

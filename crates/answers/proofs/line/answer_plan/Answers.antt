-- There are so many rows of each sort.
use Rattle.std.proofs.Common.{◌≡◌, ℕ, OnOk, length, ap, ◌∙◌, subst}
use Rattle.std.proofs.lemmas.List.{length-replicate}
use Rattle.survey.specs.Sealing.{sealed_contents}
use Rattle.search.specs.declared.check.RowCounts.{RowCounts}
use Rattle.sheet.specs.Printing.{SomePrinted}
use Rattle.tree_queue.specs.Queues.{row_count}
use Rattle.answers.specs.Plans.{PlanText, rows_each}
use Rattle.answers.proofs.line.answer_plan.Goals as goal

same_counts : (n cells queue run : ℕ) → cells ≡ n → queue ≡ n → run ≡ n
    → ◌≡◌ {A = RowCounts} (record { cells = cells; queue = queue; run = run }) (rows_each n)
same_counts n cells queue run a b d = cc

pub returns : goal.returns
returns g c =
    let n = c.args.rows in
    let owned = c.in_ok-owned.ensures in
    let lent = c.lend.ensures in
    let cells = ap length (lent.cells ∙ owned.cells) ∙ length-replicate n _ in
    let run = ap length (lent.run ∙ owned.run) ∙ length-replicate n _ in
    let queue = ap row_count lent.queue ∙ c.over-queue.ensures.row_count ∙ ap length c.deref_mut.ensures.value
    ∙ ap length c.in_ok-queue_rows.ensures ∙ length-replicate n _ in
    let shown = PlanText (sealed_contents c.args.survey.now) c.args.request in
    subst (λ k. OnOk c.print_plan.result (SomePrinted g.W.Write c.args.out.now c.print_plan.new.out (shown k c.args.page)))
    (same_counts n _ _ _ cells queue run) c.print_plan.ensures

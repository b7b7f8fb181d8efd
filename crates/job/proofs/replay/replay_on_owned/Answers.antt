-- The slices are those of the rows, whose vectors keep their lengths; and the queue is the one that was handed in.
use Rattle.std.proofs.Common.{◌≡◌, List, length, sym, ap, ◌∙◌, subst}
use Rattle.std.proofs.lemmas.List.{with_items_is}
use Rattle.subject.specs.declared.run.Step.{Step}
use Rattle.search.specs.declared.cell.CellRow.{CellRow}
use Rattle.search.specs.Memories.{LentMemory}
use Rattle.job.specs.Jobs.{state_of}
use Rattle.job.specs.Replay.{ReplayOutcome}
use Rattle.job.proofs.replay.replay_on_owned.Goals as goal

pub returns-clause-replayed : goal.returns-clause-replayed
returns-clause-replayed g c =
    let J = state_of g.S.Site g.S.Charge.Charge c.args.job.now in
    let replayed = c.replay_slices in
    let rows = c.args.rows.now in
    let Cells : Type 0 = List (CellRow g.row.S-Charge.Denot) in
    let Held : Type 0 = LentMemory g.row.S-Charge.Denot g.row.Q.Denot in
    let before : Cells → List Step → Held = λ cells run. record { cells = cells; queue = c.args.queue; run = run } in
    let after : Cells → List Step → Held = λ cells run. record { cells = cells; queue = replayed.new.queue; run = run } in
    let Says : Held → Held → Type 0 = λ h h'.
    ReplayOutcome J g.Q.PriorityQueue c.args.request c.args.entries.now replayed.new.entries h h' replayed.result in
    let cells = c.deref_mut.ensures.value in
    let run = c.deref_mut-2.ensures.value in
    let many_cells : length replayed.new.cells ≡ rows.cells.len =
    replayed.auto.cells ∙ ap length cells ∙ sym rows.cells.ok.0 in
    let many_steps : length replayed.new.run ≡ rows.run.len = replayed.auto.run ∙ ap length run ∙ sym rows.run.ok.0 in
    let h = ap (λ xs. before xs c.deref_mut-2.result.now) cells ∙ ap (before rows.cells.items) run in
    let h' = ap (λ xs. after xs replayed.new.run) (sym (with_items_is rows.cells replayed.new.cells many_cells))
    ∙ ap (after _) (sym (with_items_is rows.run replayed.new.run many_steps)) in (
      replayed.new.queue,
      subst (Says (before rows.cells.items rows.run.items)) h'
          (subst (λ x. Says x (after replayed.new.cells replayed.new.run)) h replayed.ensures.replayed),
    )

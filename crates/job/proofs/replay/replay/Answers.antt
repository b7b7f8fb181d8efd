-- The job is new, so its book is the empty one.
use Rattle.std.proofs.Common.{ℕ, Bool, subst}
use Rattle.search.specs.Memories.{lent_memory}
use Rattle.job.specs.Jobs.{closed_by, state_over}
use Rattle.job.specs.Replay.{ReplayOutcome}
use mathlib.Core.Path.{fun_ext}
use Rattle.job.proofs.replay.replay.Goals as goal

pub returns-clause-ok : goal.returns-clause-ok
returns-clause-ok g c =
    let s = g.S.Site in
    let charge = g.S.Charge.Charge in
    let made = c.in_ok-job.ensures in
    let new = c.in_ok-job.job in
    let h = lent_memory c.args.memory.now in
    let h' = lent_memory c.replay_on.new.memory in
    let Says : g.row.S.Denot → (ℕ → Bool) → Type 0 = λ z b. ReplayOutcome (state_over s charge z b) g.Q.PriorityQueue c.args.request c.args.entries.now c.replay_on.new.entries h h' c.replay_on.result in
    subst (Says c.args.site) (fun_ext made.open) (subst (λ z. Says z (closed_by new)) made.below c.replay_on.ensures.replayed)

-- The job is new, so its book is the empty one.
use Rattle.std.proofs.Common.{ℕ, Bool, subst}
use Rattle.job.specs.Jobs.{closed_by, state_over}
use Rattle.job.specs.Replay.{OwnedReplay}
use mathlib.Core.Path.{fun_ext}
use Rattle.job.proofs.replay.replay_owned.Goals as goal

pub returns-clause-ok : goal.returns-clause-ok
returns-clause-ok g c =
    let made = c.in_ok-job.ensures in
    let job = c.in_ok-job.job in
    let tried = c.replay_on_owned in
    let Says : g.row.S.Denot → (ℕ → Bool) → Type 0 = λ below book.
    OwnedReplay (state_over g.S.Site g.S.Charge.Charge below book) g.Q.PriorityQueue c.args.queue c.args.request
    c.args.entries.now tried.new.entries c.args.rows.now tried.new.rows tried.result in
    subst (Says c.args.site) (fun_ext made.open) (subst (λ below. Says below (closed_by job)) made.below tried.ensures.replayed)

-- The run is followed step by step; in the end nothing is left of it.
use Rattle.std.proofs.Common.{◌+◌, drop}
use Rattle.subject.specs.Problems.{problem_of}
use Rattle.sheet.proofs.Following.{followed_on, followed_next, step_at}
use Rattle.sheet.proofs.pricing.follow.Goals as goal

pub loop-step-preserved : goal.loop-step-preserved
loop-step-preserved g c =
    let P = problem_of g.S.Site g.S.Charge.Charge c.args.site.now c.args.request in
    let steps = c.args.steps.now in
    let i = c.loop-step.step-index in
    let here = c.loop-step.here in
    let next = followed_next P steps i here c.loop-step-test.true c.loop-step.invariant in
    followed_on P steps here c.in_ok-here.here (step_at P steps i) (drop (i + 1) steps) c.in_ok-here.ensures.some next

use Rattle.std.proofs.Common.{drop}
use Rattle.subject.specs.Problems.{problem_of}
use Rattle.sheet.proofs.Following.{IsFollowed}
use Rattle.sheet.proofs.pricing.follow.Given as goal

abbrev pub invariant-loop-step : goal.invariant-loop-step
invariant-loop-step g l =
    IsFollowed (problem_of g.S.Site g.S.Charge.Charge l.site l.request) l.steps l.here (drop l.step-index l.steps)

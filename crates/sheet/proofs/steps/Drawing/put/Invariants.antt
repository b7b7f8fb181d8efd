use Rattle.sheet.specs.Drawings.{drawing_problem}
use Rattle.sheet.proofs.Stepping.{IsLaid}
use Rattle.sheet.proofs.steps.Drawing.put.Given as goal

abbrev pub invariant-loop-step : goal.invariant-loop-step
invariant-loop-step g l =
    IsLaid (drawing_problem l.self) l.self.steps.now l.initial.out l.start l.loss l.step-index l.at l.out

use Rattle.sheet.specs.Drawings.{drawing_problem}
use Rattle.sheet.proofs.Stepping.{IsMeasured}
use Rattle.sheet.proofs.steps.Drawing.length.Given as goal

abbrev pub invariant-loop-step : goal.invariant-loop-step
invariant-loop-step g l = IsMeasured (drawing_problem l.self) l.self.steps.now l.most l.loss l.step-index l.length

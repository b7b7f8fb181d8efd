-- The length so far is that of the lines so far.
use Rattle.std.proofs.Common.{◌+◌, ap, arith}
use Rattle.sheet.specs.Drawings.{drawing_problem}
use Rattle.sheet.specs.Lines.{text_of}
use Rattle.sheet.proofs.Stepping.{measured-next}
use Rattle.sheet.proofs.steps.Drawing.length.Goals as goal

pub loop-step-preserved : goal.loop-step-preserved
loop-step-preserved g c =
    let l = c.loop-step in
    let drawing = c.args.self.now in
    let told = c.arrive-arrival.ensures in
    let long = c.len-length.ensures in
    measured-next (drawing_problem drawing) drawing.steps.now c.args.most l.loss l.step-index l.length
    (l.length + c.len-length.result) c.arrive-arrival.result.loss (text_of c.arrive-arrival.result.line)
    c.loop-step-test.true l.invariant told.line told.loss (ap (λ k. l.length + k) long)
    (omega (arith, c.len.ensures, long, c.if-len-most.false, l.invariant.few))

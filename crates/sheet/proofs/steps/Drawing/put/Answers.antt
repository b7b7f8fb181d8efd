-- The lines so far are in the bytes, and there is room for each.
use Rattle.std.proofs.Common.{◌≤◌, length, arith}
use Rattle.sheet.specs.Drawings.{drawing_problem}
use Rattle.sheet.specs.Lines.{text_of}
use Rattle.sheet.proofs.Stepping.{laid-none, laid-next}
use Rattle.sheet.proofs.steps.Drawing.put.Goals as goal

pub loop-step-init : goal.loop-step-init
loop-step-init g c =
    let drawing = c.args.self.now in
    let room : c.args.start ≤ length c.args.out.now = omega (arith, c.requires.room) in
    laid-none (drawing_problem drawing) drawing.steps.now c.args.out.now c.args.start room c.requires.lawful

pub loop-step-preserved : goal.loop-step-preserved
loop-step-preserved g c =
    let l = c.loop-step in
    let drawing = c.args.self.now in
    let told = c.arrive-arrival.ensures in
    let laid = c.in_ok-at.ensures in
    laid-next (drawing_problem drawing) drawing.steps.now c.args.out.now c.args.start l.loss l.step-index l.at l.out
    (text_of c.arrive-arrival.result.line) c.requires.room c.loop-step-test.true l.invariant told.line
    c.in_ok-at.at c.arrive-arrival.result.loss c.put_into.new.out told.loss laid.answer laid.after

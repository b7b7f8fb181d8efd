-- One line more is that line and the line ends behind it less.
use Rattle.std.proofs.Common.{◌≤◌, ◌-◌, take, length, length-take, add-one, ap, ◌∙◌, arith}
use Rattle.survey_text.specs.Lines.{past_breaks}
use Rattle.survey_text.specs.Filled.{past_line}
use Rattle.survey_text.proofs.LineFacts.{breaks_shorter, line_shorter, few_ends}
use Rattle.survey_text.proofs.lines.filled_line.Goals as goal

pub loop-init : goal.loop-init
loop-init c = (c.past_breaks-rest.ensures, rw c.past_breaks-rest.ensures (breaks_shorter c.args.text.now))

pub loop-preserved : goal.loop-preserved
loop-preserved c =
    let step = c.past_breaks-rest-in-loop.ensures ∙ ap past_breaks c.past_line.ensures in
    let less : length (past_breaks (past_line c.loop.rest.now)) ≤ length c.args.text.now =
    omega (arith, breaks_shorter (past_line c.loop.rest.now), line_shorter c.loop.rest.now, c.loop.invariant.1) in
    (rw add-one (step ∙ ap (λ z. past_breaks (past_line z)) c.loop.invariant.0), rw step less)

pub overflow_add-result : goal.overflow_add-result
overflow_add-result c =
    let before = length c.args.text.now - length c.loop.rest.now in
    let few = few_ends (take before c.args.text.now) in
    omega (arith, few, c.line_ends.ensures, length-take before c.args.text.now)

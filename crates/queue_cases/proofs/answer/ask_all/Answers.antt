-- one more line is answered
use Rattle.std.proofs.Common.{◌<◌, length, ◌∙◌, arith}
use Rattle.queue_cases.proofs.Turns.{next}
use Rattle.queue_cases.proofs.answer.ask_all.Goals as goal

pub loop-line-preserved : goal.loop-line-preserved
loop-line-preserved g c =
    let q = g.Q.PriorityQueue in
    let inv = c.loop-line.invariant in
    let i = c.loop-line.line-index in
    let lines = c.args.lines.now in
    let more : i < length lines = omega arith in
    record {
      ordered = c.ask_line.ensures.ordered;
      rows = c.ask_line.ensures.rows ∙ inv.rows;
      answers = rw (c.in_ok-push.ensures.items) (next _ _ _ _ _ lines i _ _ _ more inv.rows inv.answers c.ask_line.ensures.answer);
    }

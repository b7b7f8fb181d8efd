-- the queue stays in order, and has answered the lines before this one
use Rattle.std.proofs.Common.{◌≡◌, take}
use Rattle.queue_cases.specs.Answers.{AreAnswers}
use Rattle.queue_cases.proofs.answer.ask_all.Given as goal

abbrev pub invariant-loop-line : goal.invariant-loop-line
invariant-loop-line g l =
    let q = g.Q.PriorityQueue in
    record {
      ordered : q.is_ordered l.queue;
      rows : q.rows l.queue ≡ q.rows l.initial.queue;
      answers : AreAnswers (q.rows l.initial.queue) (q.waits l.initial.queue) (q.waits l.queue) (take l.line-index l.lines) l.answers.items;
    }

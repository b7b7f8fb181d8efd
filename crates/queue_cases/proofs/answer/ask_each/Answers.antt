-- one more queue has answered, and those behind it are as they were
use Rattle.std.proofs.Common.{◌<◌, ◌≢◌, length, get_or, ap, ◌∙◌, arith, get_or-set_other}
use Rattle.std.proofs.lemmas.List.Elements.{All-set}
use Rattle.queue_cases.proofs.Asked.{one_more_asked}
use Rattle.queue_cases.proofs.answer.ask_each.Goals as goal

pub loop-i-preserved : goal.loop-i-preserved
loop-i-preserved g c =
    let before = c.args.queues.now in
    let queues = c.loop-i.queues in
    let answers = c.loop-i.answers in
    let i = c.loop-i.i in
    let inv = c.loop-i.invariant in
    let read = c.index-queues-i in
    let asked = c.ask_line.ensures in
    let in_before : i < length before = omega arith in
    let in_queues : i < length queues = omega arith in
    let in_answers : i < length answers = omega arith in
    record {
      ordered = All-set g.Q.PriorityQueue.is_ordered queues i c.ask_line.new.queue asked.ordered inv.ordered;
      answered = one_more_asked g.Q.PriorityQueue c.args.line.now before queues answers i (get_or queues i read.result) c.ask_line.new.queue
          c.ask_line.result in_before in_queues in_answers (inv.others i read.result (omega arith) ∙ ap (λ d. get_or before i d) read.is) inv.answered
          (record { rows = asked.rows; answer = asked.answer });
      others = λ k d h. let ne : k ≢ i = omega arith in rw (get_or-set_other queues i k c.ask_line.new.queue d ne) (inv.others k d (omega arith));
    }

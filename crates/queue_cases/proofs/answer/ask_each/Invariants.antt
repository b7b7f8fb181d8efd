-- the queues before this one have answered, and the others are as they were
use Rattle.std.proofs.Common.{◌≡◌, ℕ, ◌≤◌, get_or}
use Rattle.std.specs.List.{All}
use Rattle.queue_cases.proofs.Asked.{AnsweredBelow}
use Rattle.queue_cases.proofs.answer.ask_each.Given as goal

abbrev pub invariant-loop-i : goal.invariant-loop-i
invariant-loop-i g l =
    record {
      ordered : All g.Q.PriorityQueue.is_ordered l.queues;
      answered : AnsweredBelow g.Q.PriorityQueue l.line l.initial.queues l.queues l.answers l.i;
      others : (k : ℕ) (d : g.row.Q.Denot) → l.i ≤ k → get_or l.queues k d ≡ get_or l.initial.queues k d;
    }

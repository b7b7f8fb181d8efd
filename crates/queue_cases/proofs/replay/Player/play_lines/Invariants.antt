-- each of the queues is in order, and has answered the lines before this one
use Rattle.std.proofs.Common.{take}
use Rattle.std.specs.List.{All}
use Rattle.queue_cases.specs.Answers.{HavePlayed}
use Rattle.queue_cases.proofs.replay.Player.play_lines.Given as goal

abbrev pub invariant-loop-line : goal.invariant-loop-line
invariant-loop-line g l =
    record {
      ordered : All g.Q.PriorityQueue.is_ordered l.queues;
      played : HavePlayed g.Q.PriorityQueue (take l.line-index l.lines) l.initial.queues l.queues;
    }

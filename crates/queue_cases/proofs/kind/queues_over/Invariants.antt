-- the queues of the kinds so far
use Rattle.std.proofs.Common.{◌≡◌, map, take, vec_len}
use Rattle.std.specs.List.{All}
use Rattle.subject.specs.Queues.{NoneWaits}
use Rattle.queue_cases.specs.declared.kind.TheConstants.{KINDS}
use Rattle.queue_cases.specs.Kinds.{kind_of, waits_in, rows_in, IsInItsOrder}
use Rattle.queue_cases.proofs.kind.queues_over.Given as goal

abbrev pub invariant-loop-i : goal.invariant-loop-i
invariant-loop-i l =
    record {
      kinds : map kind_of l.queues.items ≡ take l.i KINDS;
      ordered : All IsInItsOrder l.queues.items;
      rows : map rows_in l.queues.items ≡ map vec_len (take l.i l.fn.rows_of_kinds);
      empty : All (λ q. NoneWaits (waits_in q)) l.queues.items;
    }

-- where none waits, the queue inside is as it was, and so is the queue round it
use Rattle.std.proofs.Common.{◌≡◌, Option, Some, None, ap, ◌∙◌, sym}
use Rattle.std.specs.Option.{IfNone}
use Rattle.subject.specs.Queues.{NoneWaits}
use Rattle.queue_cases.specs.declared.kind.AnyQueue.{AnyQueue}
use Rattle.queue_cases.specs.declared.kind.AnyQueue.TheVariants.{Heap, OrderedRow}
use Rattle.queue_cases.specs.Kinds.{waits_in}
use Rattle.queue_cases.proofs.kind.AnyQueuePriorityQueue.take.Goals as goal

within : {T Q : Type 0} (make : Q → AnyQueue) (x y : Q) (z : AnyQueue) (r : Option T) → z ≡ make x
    → IfNone r (NoneWaits (waits_in (make x)) × (y ≡ x)) → IfNone r (NoneWaits (waits_in z) × (make y ≡ z))
within make x y z None e p = (rw e p.0, ap make p.1 ∙ sym e)
within make x y z (Some _) e p = p

pub returns-in-Heap-clause-none : goal.returns-in-Heap-clause-none
returns-in-Heap-clause-none c = within Heap _ _ _ c.take.result c.in-Heap.is c.take.ensures.none

pub returns-in-OrderedRow-clause-none : goal.returns-in-OrderedRow-clause-none
returns-in-OrderedRow-clause-none c =
    within OrderedRow _ _ _ c.take-in-OrderedRow.result c.in-OrderedRow.is c.take-in-OrderedRow.ensures.none

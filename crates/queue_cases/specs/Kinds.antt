-- A queue of one of the kinds: its kind, what waits in it, its rows and its order. Stands on the trees that queues are.
use Rattle.std.specs.Prelude.{ℕ, Bool, true, false, List, Option}
use Rattle.std.specs.Borrow.{GName}
use Rattle.subject.specs.declared.money.Money.{Money}
use Rattle.subject.specs.Moneys.{money_no_more}
use Rattle.tree_queue.specs.declared.queue.TreeQueue.{TreeQueue}
use Rattle.tree_queue.specs.Order.{IsAhead, IsArranged, may_be_above}
use Rattle.tree_queue.specs.Queues.{row_count, row_lenders, what_waits}
use Rattle.tree_queue.specs.Rows.{charges, cells}
use Rattle.tree_queue.specs.Trees.{binary_parent, chain_parent}
use Rattle.queue_cases.specs.declared.kind.Kind.{Kind}
use Rattle.queue_cases.specs.declared.kind.Kind.TheVariants.{Heap as HeapKind, OrderedRow as OrderedRowKind}
use Rattle.queue_cases.specs.declared.kind.AnyQueue.{AnyQueue}
use Rattle.queue_cases.specs.declared.kind.AnyQueue.TheVariants.{Heap, OrderedRow}

abbrev pub kind_of : AnyQueue → Kind
kind_of (Heap q) = HeapKind
kind_of (OrderedRow q) = OrderedRowKind

abbrev pub waits_in : AnyQueue → ℕ → Option Money
waits_in (Heap q) = what_waits q
waits_in (OrderedRow q) = what_waits q

abbrev pub rows_in : AnyQueue → ℕ
rows_in (Heap q) = row_count q
rows_in (OrderedRow q) = row_count q

abbrev pub lenders_of : AnyQueue → List GName
lenders_of (Heap q) = row_lenders q
lenders_of (OrderedRow q) = row_lenders q

-- the cells that wait are along a tree in the order of their charges
abbrev pub IsAlong : {L : Type 0} → (ℕ → ℕ) → Bool → TreeQueue Money L → Type 0
IsAlong parent highest_on_top q =
    IsArranged parent (IsAhead (may_be_above highest_on_top money_no_more) (charges q.rows.now)) (cells q.rows.now) q.len

-- of a heap a lowest charge is on top, of an ordered row a highest
abbrev pub IsInItsOrder : AnyQueue → Type 0
IsInItsOrder (Heap q) = IsAlong binary_parent false q
IsInItsOrder (OrderedRow q) = IsAlong chain_parent true q

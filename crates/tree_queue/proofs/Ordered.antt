-- What holds of the columns of a queue in order, together; and what an exchange among the cells that wait keeps.
use Rattle.std.proofs.Common.{ℕ, ◌<◌, ◌≤◌, Bool, List, ◌∙◌, arith}
use Rattle.subject.specs.declared.charge.Charge.{Ghosts as ChargeGhosts}
use Rattle.tree_queue.specs.declared.layout.Layout.{Ghosts as LayoutGhosts}
use Rattle.tree_queue.specs.declared.queue.TreeQueue.{TreeQueue}
use Rattle.tree_queue.specs.Rows.{charges, cells, positions}
use Rattle.tree_queue.specs.Order.{IsPlacement, IsArranged, IsAhead}
use Rattle.tree_queue.specs.Queues.{row_count, rank, IsInOrder, IsExchanged, SameCharges, SameWaiting}
use Rattle.tree_queue.proofs.Swaps.{same_wait}

pub record IsOrdered {C : Type 0} (up : ℕ → ℕ) (rank : C → C → Bool) (n : ℕ) (charges : List C) (cells positions : List ℕ) (len : ℕ) : Type 0 where
  pub placement : IsPlacement n cells positions
  pub len_in_rows : len ≤ n
  pub arranged : IsArranged up (IsAhead rank charges) cells len

pub columns_of : {C L : Type 0} (l : LayoutGhosts L) (c : ChargeGhosts C) (q : TreeQueue C L) → IsInOrder l c q
    → IsOrdered l.parent (rank l c) (row_count q) (charges q.rows.now) (cells q.rows.now) (positions q.rows.now) q.len
columns_of l c q order = record { placement = q.placement; len_in_rows = q.len_in_rows; arranged = order }

pub still_wait : {C L : Type 0} {before q q' : TreeQueue C L} {i j : ℕ} → SameWaiting before q → SameCharges q q'
    → IsExchanged q q' i j → i < q.len → j < q.len → SameWaiting before q'
still_wait {before = before} {q = q} {q' = q'} s e x hi hj =
    let w = q.len_in_rows in
    record {
      rows = record {
        lender = e.lender ∙ s.rows.lender;
        len = e.len ∙ s.rows.len;
        same_charges = e.same_charges ∙ s.rows.same_charges;
      };
      wait = λ k. same_wait q.placement (omega arith) (omega arith) x before.len (omega (arith, s.rows.len)) (omega (arith, s.rows.len)) k ∙ s.wait k;
    }

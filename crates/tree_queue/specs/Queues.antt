-- A queue over lent rows: what waits in it, and its order. Stands on Rows, Order, the struct of a queue and
-- the ghost members of layouts and charges.
use Rattle.std.specs.Prelude.{◌≡◌, ℕ, ◌-◌, ◌<◌, Bool, List, [], ◌∷◌, cond, None, Option, length}
use Rattle.std.specs.Prelude.{nat_lt, slice_index, slice_index_or, slice_set}
use Rattle.std.specs.Borrow.{GName}
use Rattle.std.specs.List.{slice_get}
use Rattle.subject.specs.declared.charge.Charge.{Ghosts as ChargeGhosts}
use Rattle.tree_queue.specs.declared.layout.Layout.{Ghosts as LayoutGhosts}
use Rattle.tree_queue.specs.declared.queue.TreeQueue.{TreeQueue}
use Rattle.tree_queue.specs.Rows.{charges, cells, positions}
use Rattle.subject.specs.Queues.{IsTaken}
use Rattle.tree_queue.specs.Order.{IsAhead, IsArranged, IsRising, IsSinking, IsForemost, IsExchange}
use Rattle.tree_queue.specs.Order.{SameWait, may_be_above}

abbrev pub row_count : {C L : Type 0} → TreeQueue C L → ℕ
row_count q = length q.rows.now

-- the reference behind which the rows lie
abbrev pub row_lenders : {C L : Type 0} → TreeQueue C L → List GName
row_lenders q = q.rows.ghost_name ∷ []

-- the cell `k` waits with its charge where its position is below `len`
abbrev pub waits_of : {C : Type 0} → List C → List ℕ → ℕ → ℕ → Option C
waits_of charges positions len k =
    cond (nat_lt (slice_index positions k) len) (slice_get charges k) None

abbrev pub what_waits : {C L : Type 0} → TreeQueue C L → ℕ → Option C
what_waits q = waits_of (charges q.rows.now) (positions q.rows.now) q.len

-- the charge of the cell at the position `i`
abbrev pub charge_at : {C L : Type 0} → TreeQueue C L → ℕ → C → C
charge_at q i d = slice_index_or (charges q.rows.now) (slice_index (cells q.rows.now) i) d

-- whether the first charge may be above the second
abbrev pub rank : {C L : Type 0} → LayoutGhosts L → ChargeGhosts C → C → C → Bool
rank l c = may_be_above l.highest_on_top c.no_more

module _ {C L : Type 0} (l : LayoutGhosts L) (c : ChargeGhosts C) (q : TreeQueue C L) where
  -- the cell `a` may be above the cell `b`
  abbrev pub MayBeAbove : ℕ → ℕ → Type 0
  MayBeAbove = IsAhead (rank l c) (charges q.rows.now)

  -- the cells that wait are along the tree in the order of their charges
  abbrev pub IsInOrder : Type 0
  IsInOrder = IsArranged l.parent MayBeAbove (cells q.rows.now) q.len

  -- they are, but for the cell at the position `at`, which may belong higher up
  abbrev pub IsRisingAt : ℕ → Type 0
  IsRisingAt at = IsRising l.parent MayBeAbove (cells q.rows.now) q.len at

  -- they are, but for the cell at the position `at`, which may belong lower down
  abbrev pub IsSinkingAt : ℕ → Type 0
  IsSinkingAt at = IsSinking l.parent MayBeAbove (cells q.rows.now) q.len at

  -- of the cells right below the position `i`, the one at `r` may be above the others
  abbrev pub IsForemostBelow : ℕ → ℕ → Type 0
  IsForemostBelow i r = IsForemost l.parent MayBeAbove (cells q.rows.now) q.len i r

-- a cell and its charge, than which none that waited is lower, are taken
abbrev pub IsTakenFrom : {C L : Type 0} → (C → C → Bool) → TreeQueue C L → TreeQueue C L → ℕ × C → Type 0
IsTakenFrom no_more q q' p = IsTaken no_more (what_waits q) (what_waits q') p.0 p.1

-- the same rows, but that `cell` has the charge
pub record IsCharged {C L : Type 0} (q q' : TreeQueue C L) (cell : ℕ) (charge : C) : Type 0 where
  pub lender : q'.rows.ghost_name ≡ q.rows.ghost_name
  pub len : q'.len ≡ q.len
  pub written : charges q'.rows.now ≡ slice_set (charges q.rows.now) cell charge
  pub same_cells : cells q'.rows.now ≡ cells q.rows.now
  pub same_positions : positions q'.rows.now ≡ positions q.rows.now

-- some cells have gone to other positions: the same rows, as many cells wait, and each cell has its charge still
pub record SameCharges {C L : Type 0} (q q' : TreeQueue C L) : Type 0 where
  pub lender : q'.rows.ghost_name ≡ q.rows.ghost_name
  pub len : q'.len ≡ q.len
  pub same_charges : charges q'.rows.now ≡ charges q.rows.now

-- so they have, and the same cells wait
pub record SameWaiting {C L : Type 0} (q q' : TreeQueue C L) : Type 0 where
  pub rows : SameCharges q q'
  pub wait : SameWait q.len (positions q.rows.now) (positions q'.rows.now)

-- the cells at the positions `i` and `j` have changed positions
abbrev pub IsExchanged : {C L : Type 0} → TreeQueue C L → TreeQueue C L → ℕ → ℕ → Type 0
IsExchanged q q' i j =
    IsExchange (cells q.rows.now) (positions q.rows.now) (cells q'.rows.now) (positions q'.rows.now) i j

-- the cell at a position, with its charge
pub record IsStanding {C L : Type 0} (q : TreeQueue C L) (position cell : ℕ) (charge : C) : Type 0 where
  pub inside : position < length q.rows.now
  pub there : cell ≡ slice_index (cells q.rows.now) position
  pub its_charge : (d : C) → charge ≡ slice_index_or (charges q.rows.now) cell d

-- the cell at the last position that waits, with its charge, waits no more, and the rows stay as they are
pub record IsLastTaken {C L : Type 0} (q q' : TreeQueue C L) (cell : ℕ) (charge : C) : Type 0 where
  pub waited : 0 < q.len
  pub one_less : q'.len ≡ q.len - 1
  pub same_rows : q'.rows ≡ q.rows
  pub last : cell ≡ slice_index (cells q.rows.now) (q.len - 1)
  pub its_charge : (d : C) → charge ≡ slice_index_or (charges q.rows.now) cell d

-- Cells at positions, and the order of those at the first positions along a tree. Stands on nothing.
use Rattle.std.specs.Prelude.{◌≡◌, ℕ, ◌+◌, ◌<◌, ◌≤◌, Bool, true, cond, ◌≢◌, List, length}
use Rattle.std.specs.Prelude.{nat_lt, slice_index, slice_index_or}

-- each position but 0 is below an earlier one; at most two positions are below one, side by side
pub record IsTree (parent first_child : ℕ → ℕ) : Type 0 where
  pub earlier : (k : ℕ) → 0 < k → parent k < k
  pub later : (i : ℕ) → i < first_child i
  pub first : (i : ℕ) → parent (first_child i) ≡ i
  pub two : (i k : ℕ) → 0 < k → parent k ≡ i → (first_child i ≤ k) × (k ≤ first_child i + 1)

-- each of `n` cells is at one of `n` positions, and each position holds one cell
pub record IsPlacement (n : ℕ) (cells positions : List ℕ) : Type 0 where
  pub cell_count : length cells ≡ n
  pub position_count : length positions ≡ n
  pub cell_in : (k : ℕ) → k < n → slice_index cells k < n
  pub there : (k : ℕ) → k < n → slice_index positions (slice_index cells k) ≡ k
  pub position_in : (k : ℕ) → k < n → slice_index positions k < n
  pub back : (k : ℕ) → k < n → slice_index cells (slice_index positions k) ≡ k

-- each cell is at the position of its own number
pub record IsOwnPlacement (n : ℕ) (cells positions : List ℕ) : Type 0 where
  pub cell : (k : ℕ) → k < n → slice_index cells k ≡ k
  pub position : (k : ℕ) → k < n → slice_index positions k ≡ k

-- whether the first charge may be above the second, where the highest charge is on top, or the lowest
abbrev pub may_be_above : {C : Type 0} → Bool → (C → C → Bool) → C → C → Bool
may_be_above highest_on_top no_more a b = cond highest_on_top (no_more b a) (no_more a b)

-- the cell `a` may be above the cell `b`
abbrev pub IsAhead : {C : Type 0} → (C → C → Bool) → List C → ℕ → ℕ → Type 0
IsAhead rank charges a b =
    (d : _) → rank (slice_index_or charges a d) (slice_index_or charges b d) ≡ true

-- the same cells are before the position `len`
abbrev pub SameWait : ℕ → List ℕ → List ℕ → Type 0
SameWait len before after =
    (k : ℕ) → nat_lt (slice_index after k) len ≡ nat_lt (slice_index before k) len

-- the cell at the position `i` may be above the cell at `k`, where the cell `a` may be above the cell `b` if R a b
abbrev pub IsAheadAt : (ℕ → ℕ → Type 0) → List ℕ → ℕ → ℕ → Type 0
IsAheadAt R cells i k = R (slice_index cells i) (slice_index cells k)

module _ (parent : ℕ → ℕ) (R : ℕ → ℕ → Type 0) (cells : List ℕ) (len : ℕ) where
  -- each cell before the position `len` may be below the one above it
  abbrev pub IsArranged : Type 0
  IsArranged = (k : ℕ) → 0 < k → k < len → IsAheadAt R cells (parent k) k

  -- arranged but for the position `at`, whose cell may belong higher up
  pub record IsRising (at : ℕ) : Type 0 where
    pub others : (k : ℕ) → 0 < k → k < len → k ≢ at → IsAheadAt R cells (parent k) k
    pub across : (k : ℕ) → 0 < k → k < len → 0 < at → parent k ≡ at → IsAheadAt R cells (parent at) k

  -- arranged but for the position `at`, whose cell may belong lower down
  pub record IsSinking (at : ℕ) : Type 0 where
    pub others : (k : ℕ) → 0 < k → k < len → parent k ≢ at → IsAheadAt R cells (parent k) k
    pub across : (k : ℕ) → 0 < k → k < len → 0 < at → parent k ≡ at → IsAheadAt R cells (parent at) k

  -- of the positions below `i`, the cell at `r` may be above all
  pub record IsForemost (i r : ℕ) : Type 0 where
    pub child : parent r ≡ i
    pub after : i < r
    pub before_len : r < len
    pub low : (k : ℕ) → 0 < k → k < len → parent k ≡ i → IsAheadAt R cells r k

-- what was at the positions `i` and `j` is exchanged; `cs` and `ps` are the cells and positions before
module _ (cs ps cs' ps' : List ℕ) (i j : ℕ) where
  pub record IsExchange : Type 0 where
    pub at_i : slice_index cs' i ≡ slice_index cs j
    pub at_j : slice_index cs' j ≡ slice_index cs i
    pub else : (k : ℕ) → k ≢ i → k ≢ j → slice_index cs' k ≡ slice_index cs k
    pub pos_i : slice_index ps' (slice_index cs i) ≡ j
    pub pos_j : slice_index ps' (slice_index cs j) ≡ i
    pub pos_else : (k : ℕ) → k ≢ slice_index cs i → k ≢ slice_index cs j → slice_index ps' k ≡ slice_index ps k

-- What the calls of a priority queue do to what waits, a map from cell numbers to charges, and to its rows. Stands on nothing.
use Rattle.std.specs.Prelude.{◌≡◌, ℕ, Bool, true, ◌≢◌, List, Some, None, Option}
use Rattle.std.specs.Borrow.{GName}

-- no cell waits
abbrev pub NoneWaits : {C : Type 0} → (ℕ → Option C) → Type 0
NoneWaits waits = (k : ℕ) → waits k ≡ None

-- `cell` waits with `charge`, and every other cell as before
pub record IsPut {C : Type 0} (before after : ℕ → Option C) (cell : ℕ) (charge : C) : Type 0 where
  pub here : after cell ≡ Some charge
  pub others : (k : ℕ) → k ≢ cell → after k ≡ before k

-- `cell` waited with `charge`, than which none that waited is lower; it waits no more, and every other cell as before
pub record IsTaken {C : Type 0} (no_more : C → C → Bool) (before after : ℕ → Option C) (cell : ℕ) (charge : C) : Type 0 where
  pub waited : before cell ≡ Some charge
  pub least : (k : ℕ) (c : C) → before k ≡ Some c → no_more charge c ≡ true
  pub gone : after cell ≡ None
  pub others : (k : ℕ) → k ≢ cell → after k ≡ before k

-- as many rows as before, behind the same references; a queue x has `rows x` rows behind the references `lenders x`
pub record SameRows {Q : Type 0} (rows : Q → ℕ) (lenders : Q → List GName) (q q' : Q) : Type 0 where
  pub as_many : rows q' ≡ rows q
  pub same_lenders : lenders q' ≡ lenders q

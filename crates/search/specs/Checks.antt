-- Why a request to a site with so many places is refused before any search, in the order in which the causes are looked for.
-- Stands on nothing but the request and the refusals.
use Rattle.std.specs.Prelude.{◌≡◌, ℕ, ◌+◌, ◌*◌, ◌<◌, ◌≤◌, ◌⊎◌}
use Rattle.subject.specs.declared.refusal.Refusal.{Refusal}
use Rattle.subject.specs.declared.refusal.Refusal.TheVariants.{NoSuchPlace, WrongBound, TooFewRows}
use Rattle.subject.specs.declared.run.Request.{Request}
use Rattle.subject.specs.declared.run.TheConstants.{MOST_BOUND}
use Rattle.search.specs.declared.check.RowCounts.{RowCounts}

-- the rows of each sort that a plan needs: one for each place with each loss from 0 to the bound
abbrev pub needed_rows : ℕ → Request → ℕ
needed_rows places q = places * (q.bound + 1)

-- the start and the end are places of the site, or one of them is not
pub record PlacesExist (places : ℕ) (q : Request) : Type 0 where
  pub start : q.start < places
  pub end : q.end < places

abbrev pub PlaceMissing : ℕ → Request → Type 0
PlaceMissing places q = (places ≤ q.start) ⊎ (places ≤ q.end)

-- the bound is 1 to 1,000, or it is not
pub record BoundInRange (q : Request) : Type 0 where
  pub least : 1 ≤ q.bound
  pub most : q.bound ≤ MOST_BOUND

abbrev pub BoundOutOfRange : Request → Type 0
BoundOutOfRange q = (q.bound ≡ 0) ⊎ (MOST_BOUND < q.bound)

-- nothing speaks against a request by itself
pub record RequestPasses (places : ℕ) (q : Request) : Type 0 where
  pub places_exist : PlacesExist places q
  pub bound_in_range : BoundInRange q

-- the refusal e names the first cause that speaks against a request by itself: a missing place before a wrong bound
abbrev pub RequestCause : ℕ → Request → Refusal → Type 0
RequestCause places q e =
    ((e ≡ NoSuchPlace) × PlaceMissing places q)
    ⊎ ((e ≡ WrongBound) × PlacesExist places q × BoundOutOfRange q)

-- there are n rows of each sort, or there are fewer of one
pub record RowsSuffice (n : ℕ) (counts : RowCounts) : Type 0 where
  pub of_cells : n ≤ counts.cells
  pub of_queue : n ≤ counts.queue
  pub of_run : n ≤ counts.run

abbrev pub RowsMissing : ℕ → RowCounts → Type 0
RowsMissing n counts = (counts.cells < n) ⊎ ((counts.queue < n) ⊎ (counts.run < n))

-- nothing speaks against a search
pub record ChecksPass (places : ℕ) (q : Request) (counts : RowCounts) : Type 0 where
  pub places_exist : PlacesExist places q
  pub bound_in_range : BoundInRange q
  pub rows_suffice : RowsSuffice (needed_rows places q) counts

-- the refusal e names the first cause that speaks against a search: a missing place before a wrong bound before too few rows
abbrev pub FirstCause : ℕ → Request → RowCounts → Refusal → Type 0
FirstCause places q counts e =
    ((e ≡ NoSuchPlace) × PlaceMissing places q)
    ⊎ (((e ≡ WrongBound) × PlacesExist places q × BoundOutOfRange q)
    ⊎ ((e ≡ TooFewRows) × PlacesExist places q × BoundInRange q × RowsMissing (needed_rows places q) counts))

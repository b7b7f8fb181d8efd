-- The index of the ways by the place that they leave: from a place to the largest way that leaves it, and from a way to
-- the next smaller one that leaves the same place; none ends the walk. Stands on the meaning of a site.
use Rattle.std.specs.Prelude.{◌≡◌, ℕ, ◌<◌, List, Some, None, Option, MatchOption, slice_index_or}
use Rattle.subject.specs.declared.way.Way.{Way}
use Rattle.subject.specs.Sites.{SiteMeaning}

-- the way i is open and leaves the place p
abbrev pub IsWayFrom : {C : Type 0} → SiteMeaning C → ℕ → ℕ → Type 0
IsWayFrom {C} m p i = (w : Way C) × (m.way i ≡ Some w) × (w.from ≡ p)

-- h is the largest way below n that leaves the place p
pub record IsLargest {C : Type 0} (m : SiteMeaning C) (p n h : ℕ) : Type 0 where
  pub below : h < n
  pub leaves : IsWayFrom m p h
  pub none : (i : ℕ) → h < i → i < n → IsWayFrom m p i → ⊥

-- h is the largest way below n that leaves the place p, or none where none does
abbrev pub IsLargestOrNone : {C : Type 0} → SiteMeaning C → ℕ → ℕ → Option ℕ → Type 0
IsLargestOrNone m p n h = MatchOption h ((i : ℕ) → i < n → IsWayFrom m p i → ⊥) (λ i. IsLargest m p n i)

-- the ways below n are in the index
pub record IsIndexed {C : Type 0} (m : SiteMeaning C) (heads nexts : List (Option ℕ)) (n : ℕ) : Type 0 where
  pub of_place : (p : ℕ) → IsLargestOrNone m p n (slice_index_or heads p None)
  pub of_way : (j p : ℕ) → j < n → IsWayFrom m p j → IsLargestOrNone m p j (slice_index_or nexts j None)

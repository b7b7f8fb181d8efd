-- What a site is: its four answers, and their bounds. Stands on nothing but the struct of a way.
use Rattle.std.specs.Prelude.{◌≡◌, ℕ, ◌<◌, ◌≤◌, Some, None, Option}
use Rattle.subject.specs.declared.site.TheConstants.{MOST_PLACES, MOST_WAYS, MOST_LOSS}
use Rattle.subject.specs.declared.way.Way.{Way}

pub record SiteMeaning (C : Type 0) : Type 0 where
  -- how many places
  pub places : ℕ
  -- how many ways, shut ones too
  pub ways : ℕ
  -- the charge of a repeater at a place, or none
  pub repeater : ℕ → Option C
  -- an open way by its number, or none where it is shut
  pub way : ℕ → Option (Way C)

-- the numbers of a site are within their limits; past them there is nothing; and open ways join places
pub record IsBounded {C : Type 0} (m : SiteMeaning C) : Type 0 where
  pub few_places : m.places ≤ MOST_PLACES
  pub few_ways : m.ways ≤ MOST_WAYS
  pub no_repeater : (p : ℕ) → m.places ≤ p → m.repeater p ≡ None
  pub no_way : (n : ℕ) → m.ways ≤ n → m.way n ≡ None
  pub from_in : (n : ℕ) (w : Way C) → m.way n ≡ Some w → w.from < m.places
  pub to_in : (n : ℕ) (w : Way C) → m.way n ≡ Some w → w.to < m.places
  pub loss_in : (n : ℕ) (w : Way C) → m.way n ≡ Some w → w.loss ≤ MOST_LOSS

-- The minimum cost path problem with relays, over the contents of a survey with some of its ways shut: which
-- paths are feasible, what one costs, and when one is optimal. A path is told by its steps: each has the number
-- of a way, and says whether a repeater is set where the way arrives. Stands on the contents of a survey, the
-- loss card and the request; it knows nothing of charges and their ceiling, nor of how a plan is made.
use Rattle.std.specs.Prelude.{◌≡◌, ℕ, ◌+◌, ◌≤◌, Bool, false, cond, ◌≢◌, List, [], ◌∷◌, map, Some, None, sum, Option}
use Rattle.std.specs.List.{slice_get, AllByRecursion}
use Rattle.survey.specs.declared.entry.Place.{Place}
use Rattle.survey.specs.declared.entry.WayEntry.{WayEntry}
use Rattle.survey.specs.Contents.{Contents}
use Rattle.subject.specs.declared.run.Step.{Step}
use Rattle.subject.specs.declared.run.Request.{Request}
use Rattle.survey.specs.SurveySite.{entry_loss}

-- what is given: a survey, the set of the ways that are shut, by their numbers, and the start, the end and the bound
pub record RelayProblem : Type 0 where
  pub contents : Contents
  pub is_shut : ℕ → Bool
  pub request : Request

-- with no way shut
abbrev pub all_open : Contents → Request → RelayProblem
all_open c q = record { contents = c; is_shut = λ _. false; request = q }

-- the step s goes over the way w, which was entered, is not shut, and leaves the place p
pub record IsStepFrom (R : RelayProblem) (p : ℕ) (s : Step) (w : WayEntry) : Type 0 where
  pub entered : slice_get R.contents.ways s.way ≡ Some w
  pub not_shut : R.is_shut s.way ≡ false
  pub leaves : w.from ≡ p

-- the steps are a path from the place p to the end: each leaves where the one before it arrived
abbrev pub IsPath : RelayProblem → ℕ → List Step → Type 0
IsPath R p [] = p ≡ R.request.end
IsPath R p (s ∷ rest) = (w : WayEntry) × IsStepFrom R p s w × IsPath R w.to rest

-- what was entered for a way, if there is one (on a path there is)
abbrev pub loss_at : Option WayEntry → ℕ
loss_at None = 0
loss_at (Some w) = entry_loss w

abbrev pub price_at : Option WayEntry → ℕ
price_at None = 0
price_at (Some w) = w.price

abbrev pub arrival_at : Option WayEntry → ℕ
arrival_at None = 0
arrival_at (Some w) = w.to

-- the loss and the price of a step's way, and where it arrives
abbrev pub loss : Contents → Step → ℕ
loss c s = loss_at (slice_get c.ways s.way)

abbrev pub price : Contents → Step → ℕ
price c s = price_at (slice_get c.ways s.way)

abbrev pub arrival : Contents → Step → ℕ
arrival c s = arrival_at (slice_get c.ways s.way)

-- the places at which the path has its repeaters
abbrev pub relays : Contents → List Step → List ℕ
relays c [] = []
relays c (s ∷ rest) = cond s.mark (arrival c s ∷ relays c rest) (relays c rest)

-- a loss more at the front of the first stretch
abbrev pub with_loss : ℕ → List (List ℕ) → List (List ℕ)
with_loss l [] = (l ∷ []) ∷ []
with_loss l (first ∷ others) = (l ∷ first) ∷ others

-- the losses along the path, cut at each repeater: a list for each stretch between two repeaters, or between an
-- end of the path and the nearest repeater
abbrev pub stretches : Contents → List Step → List (List ℕ)
stretches c [] = [] ∷ []
stretches c (s ∷ rest) = cond s.mark ((loss c s ∷ []) ∷ stretches c rest) (with_loss (loss c s) (stretches c rest))

-- the price that was entered for a repeater at a place; none where it was left blank
abbrev pub repeater_at : Option Place → Option ℕ
repeater_at None = None
repeater_at (Some p) = p.repeater

-- a repeater can be set at the place p: its price was entered, and p is neither the start nor the end
pub record IsRelayAllowed (R : RelayProblem) (p : ℕ) : Type 0 where
  pub cents : ℕ
  pub entered : repeater_at (slice_get R.contents.places p) ≡ Some cents
  pub not_start : p ≢ R.request.start
  pub not_end : p ≢ R.request.end

-- the losses of a stretch sum to at most the bound
abbrev pub IsWithinBound : RelayProblem → List ℕ → Type 0
IsWithinBound R losses = sum losses ≤ R.request.bound

-- a path from the start to the end, with repeaters only where they can be set, and each stretch within the bound
pub record IsFeasible (R : RelayProblem) (run : List Step) : Type 0 where
  pub path : IsPath R R.request.start run
  pub relays_allowed : AllByRecursion (IsRelayAllowed R) (relays R.contents run)
  pub within_bound : AllByRecursion (IsWithinBound R) (stretches R.contents run)

-- no path is feasible
abbrev pub NoneFeasible : RelayProblem → Type 0
NoneFeasible R = (run : List Step) → IsFeasible R run → ⊥

-- the price of a repeater (at a repeater of a feasible path one was entered)
abbrev pub relay_cents : Option ℕ → ℕ
relay_cents None = 0
relay_cents (Some cents) = cents

abbrev pub relay_price : Contents → ℕ → ℕ
relay_price c p = relay_cents (repeater_at (slice_get c.places p))

-- what a path costs: the prices of its ways and of its repeaters, as a natural number
abbrev pub value : Contents → List Step → ℕ
value c run = sum (map (price c) run) + sum (map (relay_price c) (relays c run))

-- the path is feasible, and no feasible path costs less
pub record IsOptimal (R : RelayProblem) (run : List Step) : Type 0 where
  pub feasible : IsFeasible R run
  pub cheapest : (other : List Step) → IsFeasible R other → value R.contents run ≤ value R.contents other

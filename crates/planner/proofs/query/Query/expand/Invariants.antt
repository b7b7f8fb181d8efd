-- The first loop has offered the ways from the index's limit up to n; the second all ways from the walk's place upwards, and the
-- way where it is leaves the place. The walk falls.
use Rattle.std.proofs.Common.{◌≡◌, ℕ, ◌<◌, ◌≤◌, Some}
use Rattle.search.specs.Cells.{place_of}
use Rattle.search.specs.Index.{IsWayFrom}
use Rattle.planner.specs.Workspaces.{problem, ReadyStays, IsTurn, OffersWay}
use Rattle.search.proofs.Walks.{left_of}
use Rattle.planner.proofs.query.Query.expand.Given as goal

abbrev pub invariant-loop-n : goal.invariant-loop-n
invariant-loop-n g l = record {
  still : ReadyStays (problem l.self) g.Q.PriorityQueue l.initial.work l.work;
  turn : IsTurn (problem l.self) g.Q.PriorityQueue l.work l.from;
  offered : (i : ℕ) → l.limit ≤ i → i < l.n → OffersWay (problem l.self) g.Q.PriorityQueue l.work l.from i;
}

abbrev pub invariant-loop-after : goal.invariant-loop-after
invariant-loop-after g l = record {
  still : ReadyStays (problem l.self) g.Q.PriorityQueue l.initial.work l.work;
  turn : IsTurn (problem l.self) g.Q.PriorityQueue l.work l.from;
  offered : (i : ℕ) → left_of l.after ≤ i → i < l.ways → OffersWay (problem l.self) g.Q.PriorityQueue l.work l.from i;
  under : left_of l.after ≤ l.limit;
  leaves : (i : ℕ) → l.after ≡ Some i → IsWayFrom (problem l.self).site (place_of (problem l.self) l.from.at) i;
}

abbrev pub decreases-loop-after : goal.decreases-loop-after
decreases-loop-after g l = left_of l.after

-- The quotient is the place, by definition.
use Rattle.std.proofs.Common.{refl}
use Rattle.search.specs.Cells.{place_of}
use Rattle.planner.proofs.query.Query.place_of.Goals as goal

pub returns : goal.returns
unfolding place_of
returns g c = refl

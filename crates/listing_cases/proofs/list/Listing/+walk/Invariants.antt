-- A listing ends, since each step has fewer steps left.
use Rattle.listing_cases.proofs.list.Listing.+walk.Given as goal

abbrev pub decreases-walk : goal.decreases-walk
decreases-walk l = l.depth

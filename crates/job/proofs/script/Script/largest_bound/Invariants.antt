-- The bound so far can be asked for, covers the last plan and the calls that were looked at, and comes to the largest through those
-- that are left.
use Rattle.std.proofs.Common.{◌≡◌, ◌∷◌, ◌≤◌, drop, vec_items}
use Rattle.std.specs.List.{AllWithin}
use Rattle.job.specs.declared.list.Call.TheVariants.{Plan}
use Rattle.job.specs.Replay.{calls_of}
use Rattle.job.specs.Covering.{Covers, largest}
use Rattle.subject.specs.declared.run.TheConstants.{MOST_BOUND}
use Rattle.job.proofs.script.Script.largest_bound.Given as goal

abbrev pub invariant-loop-entry : goal.invariant-loop-entry
invariant-loop-entry l =
    (l.bound ≤ MOST_BOUND)
    × Covers l.bound (Plan l.self.last)
    × AllWithin (λ e. Covers l.bound e.call) (vec_items l.self.entries) 0 l.entry-index
    × (largest l.bound (calls_of (drop l.entry-index (vec_items l.self.entries))) ≡ largest 0 (Plan l.self.last ∷ calls_of (vec_items l.self.entries)))

-- The lines that were read, none of them tried yet, with what is left, are the text; and each line that is read leaves less, so
-- they are no more than the bytes of the text.
use Rattle.std.proofs.Common.{◌+◌, ◌≤◌, length, vec_items, vec_len}
use Rattle.job.specs.Replay.{calls_of}
use Rattle.job.specs.Scripts.{AllUntried}
use Rattle.job.proofs.Listing.{Reading}
use Rattle.job.proofs.script.read_lines.Given as goal

abbrev pub invariant-loop-rest : goal.invariant-loop-rest
invariant-loop-rest l =
    Reading l.text (calls_of (vec_items l.entries)) l.rest × AllUntried (vec_items l.entries) × (vec_len l.entries + length l.rest ≤ length l.text)

abbrev pub decreases-loop-rest : goal.decreases-loop-rest
decreases-loop-rest l = length l.rest

use Rattle.std.proofs.Common.{◌≡◌, length, vec_len}
use Rattle.drawing.proofs.row.spots_of.Given as goal

abbrev pub invariant-loop-sweep : goal.invariant-loop-sweep
invariant-loop-sweep l = (vec_len l.spots ≡ length l.fn.layers) × (vec_len l.best ≡ length l.fn.layers)

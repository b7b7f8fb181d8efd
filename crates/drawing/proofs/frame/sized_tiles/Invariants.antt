use Rattle.std.proofs.Common.{◌≡◌, vec_len}
use Rattle.drawing.proofs.frame.sized_tiles.Given as goal

abbrev pub invariant-loop-spot : goal.invariant-loop-spot
invariant-loop-spot l = vec_len l.tiles ≡ l.spot-index

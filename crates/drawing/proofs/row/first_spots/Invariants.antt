use Rattle.std.proofs.Common.{◌≡◌, vec_len}
use Rattle.drawing.proofs.row.first_spots.Given as goal

abbrev pub invariant-loop-place : goal.invariant-loop-place
invariant-loop-place l = vec_len l.spots ≡ l.place

use Rattle.std.proofs.Common.{◌≡◌, vec_len}
use Rattle.drawing.proofs.label.labels_of.Given as goal

abbrev pub invariant-loop-curve : goal.invariant-loop-curve
invariant-loop-curve l = vec_len l.labels ≡ l.curve-index

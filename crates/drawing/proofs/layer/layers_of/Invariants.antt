use Rattle.std.proofs.Common.{◌≡◌, ◌<◌, ◌≤◌, Some, length, vec_len}
use Rattle.std.specs.List.{slice_get}
use Rattle.survey.specs.Sealing.{sealed_contents}
use Rattle.drawing.proofs.layer.layers_of.Given as goal

abbrev pub invariant-loop-layer : goal.invariant-loop-layer
invariant-loop-layer l = (vec_len l.reached ≡ length (sealed_contents l.survey).places)
    × (l.start < vec_len l.reached → slice_get l.reached.items l.start ≡ Some (Some 0))
    × (l.last ≤ l.layer)

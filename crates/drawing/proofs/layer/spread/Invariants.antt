use Rattle.drawing.specs.Layers.{KeepsLayers}
use Rattle.drawing.proofs.layer.spread.Given as goal

abbrev pub invariant-loop-way : goal.invariant-loop-way
invariant-loop-way l = KeepsLayers l.initial.reached l.reached

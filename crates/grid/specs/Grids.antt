-- The floor that a grid is. Stands on Floor and the struct of a grid.
use Rattle.grid.specs.declared.grid.FloorGrid.{FloorGrid}
use Rattle.grid.specs.Floor.{Floor, floor}

abbrev pub floor_of : {C : Type 0} → FloorGrid C → Floor C
floor_of g = floor g.rows g.columns g.charge g.loss g.repeater

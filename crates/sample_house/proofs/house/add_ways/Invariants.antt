-- The first ways are behind those of the draft before.
use Rattle.std.proofs.Common.{◌≡◌, take}
use Rattle.survey.specs.Contents.{contents}
use Rattle.sample_house.specs.House.{with_ways}
use Rattle.sample_house.proofs.house.add_ways.Given as goal

abbrev pub invariant-loop-way : goal.invariant-loop-way
invariant-loop-way l = contents l.draft ≡ with_ways (contents l.initial.draft) (take l.way-index l.ways)

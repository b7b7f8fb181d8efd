-- The first places are behind those of the draft before.
use Rattle.std.proofs.Common.{◌≡◌, take}
use Rattle.survey.specs.Contents.{contents}
use Rattle.sample_house.specs.House.{with_places}
use Rattle.sample_house.proofs.house.add_places.Given as goal

abbrev pub invariant-loop-repeater : goal.invariant-loop-repeater
invariant-loop-repeater l =
    contents l.draft ≡ with_places (contents l.initial.draft) (take l.repeater-index l.repeaters)

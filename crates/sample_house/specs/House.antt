-- A house of four places and four ways, as it is in a survey. Stands on the contents of a survey.
--
--     0 --way 0--> 1 --way 1--> 3        ways 0 and 1: 10 m of U, 300 cents, grade 1
--                 | ^
--           way 2 | | way 3              ways 2 and 3: 5 m of U, 200 cents, grade 7
--                 v |
--                  2                     a repeater costs 2,000 cents at 1 and 500 cents at 2; elsewhere is a blank
use Rattle.std.specs.Prelude.{ℕ, List, [], ◌∷◌, ◌++◌, map, Some, None, Option}
use Rattle.subject.specs.declared.run.Request.{Request}
use Rattle.survey.specs.Contents.{Contents}
use Rattle.survey.specs.Edits.{of_repeater}
use Rattle.survey.specs.declared.entry.WayEntry.{WayEntry}

-- cable U (85) from a place to another
abbrev pub cable : ℕ → ℕ → ℕ → ℕ → ℕ → WayEntry
cable from to metres price grade =
    record { from = from; to = to; letter = 85; grade = grade; metres = metres; price = price }

-- the house with the price of a repeater at the place 1, or a blank there
abbrev pub house_with : Option ℕ → Contents
house_with repeater = record {
  places = map of_repeater (None ∷ repeater ∷ Some 500 ∷ None ∷ []);
  ways = cable 0 1 10 300 1 ∷ cable 1 3 10 300 1 ∷ cable 1 2 5 200 7 ∷ cable 2 1 5 200 7 ∷ [];
}

abbrev pub house : Contents
house = house_with (Some 2000)

-- a run from place 0 to place 3 that loses at most so many tenths
abbrev pub across : ℕ → Request
across bound = record { start = 0; end = 3; bound = bound }

-- more places and more ways behind those of a draft
abbrev pub with_places : Contents → List (Option ℕ) → Contents
with_places c repeaters = record { places = c.places ++ map of_repeater repeaters; ways = c.ways }

abbrev pub with_ways : Contents → List WayEntry → Contents
with_ways c ways = record { places = c.places; ways = c.ways ++ ways }

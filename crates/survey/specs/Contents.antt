-- What is in a draft: its places and its ways, each by its number. Stands on the structs.
use Rattle.std.specs.Prelude.{List, [], vec_items}
use Rattle.survey.specs.declared.entry.Place.{Place}
use Rattle.survey.specs.declared.entry.WayEntry.{WayEntry}
use Rattle.survey.specs.declared.draft.Draft.{Draft}

pub record Contents : Type 0 where
  pub places : List Place
  pub ways : List WayEntry

abbrev pub no_contents : Contents
no_contents = record { places = []; ways = [] }

abbrev pub contents : Draft → Contents
contents d = record { places = vec_items d.places; ways = vec_items d.table.ways }

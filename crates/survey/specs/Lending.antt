-- A way that is lent from its table to be changed. Stands on the structs.
use Rattle.std.specs.Prelude.{ℕ, Option}
use Rattle.std.specs.Borrow.{LendsIf, MutBor, Fml}
use Rattle.std.specs.Vec.{with_item}
use Rattle.survey.specs.declared.entry.WayEntry.{WayEntry}
use Rattle.survey.specs.declared.draft.WayTable.{WayTable}
use Rattle.survey.specs.contracts.entry.WayEntry.{the_row as way_row}
use Rattle.survey.specs.contracts.draft.WayTable.{the_row}

-- a table with another way at a number
abbrev pub with_way : WayTable → ℕ → WayEntry → WayTable
with_way table number way = record { ways = with_item table.ways number way }

-- the table ends with what was written to the way of that number, or as it was where none is lent
abbrev pub LendsWay : MutBor WayTable → ℕ → Option (MutBor WayEntry) → Fml
LendsWay table number lent = LendsIf the_row way_row table lent (with_way table.now number) table.now

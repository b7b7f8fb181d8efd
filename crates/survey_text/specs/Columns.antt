-- Where a field stands in its row. Stands on the fields' names.
use Rattle.std.specs.Prelude.{ℕ}
use Rattle.survey_text.specs.declared.trouble.Column.{Column}
use Rattle.survey_text.specs.declared.trouble.Column.TheVariants.{Name, Repeater, From, To, Cable, Metres}
use Rattle.survey_text.specs.declared.trouble.Column.TheVariants.{Price, Grade}

-- the place of a field in its row, from 0; the kind of the row stands before it
abbrev pub index : Column → ℕ
index Name = 1
index Repeater = 2
index From = 1
index To = 2
index Cable = 3
index Metres = 4
index Price = 5
index Grade = 6

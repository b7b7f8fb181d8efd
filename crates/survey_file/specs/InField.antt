-- A field of a file: what is read of it, and which places are behind it. Stands on the struct of a field.
use Rattle.std.specs.Prelude.{ℕ, ◌<◌, ◌≤◌, List, length}
use Rattle.survey_file.specs.declared.field.Field.{Field}
use Rattle.survey_file.specs.declared.field.Head.{Head}

-- what is read of a field, by the bytes of its file, its place and its head
abbrev pub in_field : {X : Type 0} → (List ℕ → ℕ → Head → X) → Field → X
in_field read f = read f.bytes.now f.at f.head

-- a place behind a field, within the file
abbrev pub IsBehind : Field → ℕ → Type 0
IsBehind f next = (f.at < next) × (next ≤ length f.bytes.now)

-- A field whose entry is put into a draft. Stands on Decode and the ghost members of an entry.
use Rattle.std.specs.Prelude.{Result}
use Rattle.subject.specs.declared.refusal.Fault.{Fault}
use Rattle.survey.specs.Contents.{Contents}
use Rattle.survey_file.specs.declared.entry.Entry.{Ghosts}
use Rattle.survey_file.specs.declared.field.Field.{Field}
use Rattle.survey_file.specs.Decode.{Turn, enter}

-- what the field brings, where the draft contains c
abbrev pub entered_by : {E : Type 0} → Ghosts E → Field → Contents → Result Turn Fault
entered_by e f c = enter e.read e.enter e.phase f.bytes.now f.at f.head c

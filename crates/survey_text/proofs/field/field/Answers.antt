-- What csv gives of a row by a place is the field there.
use Rattle.csv.specs.Records.{fields_of}
use Rattle.survey_text.proofs.FieldFacts.{field_some, field_none}
use Rattle.survey_text.proofs.field.field.Goals as goal

pub returns-in-Some : goal.returns-in-Some
returns-in-Some c = field_some (fields_of c.args.row.now) c.args.place _ c.in-Some.ensures.value

pub returns-in-None : goal.returns-in-None
returns-in-None c = field_none (fields_of c.args.row.now) c.args.place c.in-None.ensures.value

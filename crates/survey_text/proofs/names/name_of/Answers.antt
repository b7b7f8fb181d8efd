-- A field that has passed as a text is one.
use Rattle.survey_text.proofs.FieldFacts.{checked_text}
use Rattle.survey_text.proofs.names.name_of.Goals as goal

pub returns-in-Err-clause-err : goal.returns-in-Err-clause-err
returns-in-Err-clause-err c = absurd (c.in-Err.ensures.cases.0 (checked_text c.args.field.now c.in_ok-check_text.field-0 c.in_ok-check_text.ensures))

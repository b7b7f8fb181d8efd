-- from_utf8 answers a text exactly of UTF-8.
use Rattle.survey_text.proofs.FieldFacts.{shown_ok, shown_err}
use Rattle.survey_text.proofs.word.word_of_field.Goals as goal

pub returns-in-Ok : goal.returns-in-Ok
returns-in-Ok c = shown_ok c.args.field.now _ c.in-Ok.ensures.cases.0 c.in-Ok.ensures.cases.1

pub returns-in-Err : goal.returns-in-Err
returns-in-Err c = shown_err c.args.field.now c.in-Err.ensures.cases.0

-- from_utf8 answers a text exactly of UTF-8.
use Rattle.std.proofs.Common.{◌∙◌}
use Rattle.survey_text.proofs.FieldFacts.{is_text_by}
use Rattle.survey_text.proofs.field.is_text.Goals as goal

pub returns : goal.returns
returns c = c.is_ok.ensures.value ∙ is_text_by _ c.args.field.now c.from_utf8.result c.from_utf8.ensures.cases

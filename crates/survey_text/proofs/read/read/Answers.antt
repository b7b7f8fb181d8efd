-- The names that were read are lawful.
use Rattle.std.proofs.Common.{◌∙◌, ap, map}
use Rattle.csv.specs.Reading.{strip_bom}
use Rattle.csv.specs.Records.{fields_of}
use Rattle.survey_text.specs.Texts.{walk, nothing_read}
use Rattle.survey_text.proofs.LawfulBack.{told_lawful}
use Rattle.survey_text.proofs.read.read.Goals as goal

pub returns-clause-lawful : goal.returns-clause-lawful
returns-clause-lawful c =
    let text = c.args.text.now in
    let rows = ap (map fields_of) c.deref.ensures.value ∙ c.in_ok-rows.ensures in
    let said = ap (λ t. walk t 0 nothing_read (map fields_of c.deref.result.now)) c.without_mark.ensures ∙ ap (λ r. walk (strip_bom text) 0 nothing_read r) rows in
    told_lawful text (walk c.without_mark.result.now 0 nothing_read (map fields_of c.deref.result.now)) c.read_rows.result said c.read_rows.ensures

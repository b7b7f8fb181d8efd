-- The text that is written reads back.
use Rattle.std.proofs.Common.{◌≡◌, ◌∙◌, true, sym, ap, map}
use Rattle.csv.specs.Records.{fields_of}
use Rattle.survey_text.specs.Names.{texts, lawful_names}
use Rattle.survey_text.specs.Texts.{survey_of_text}
use Rattle.survey_text.specs.Written.{rows_text, with_names, is_lawful}
use Rattle.survey_text.proofs.RoundTrip.{sealed_back}
use Rattle.survey_text.proofs.write.write.Goals as goal

pub returns-clause-reads : goal.returns-clause-reads
returns-clause-reads c =
    let lawful : is_lawful (with_names c.args.survey.now c.args.names.now) ≡ true =
    ap (λ n. lawful_names n (texts c.args.names.now)) (sym c.places.ensures.value) ∙ sym c.are_lawful.ensures ∙ c.if-not-are_lawful.false in
    let text = c.in_ok-text.ensures ∙ ap (λ rows. rows_text (map fields_of rows)) c.deref.ensures.value ∙ ap rows_text c.in_ok-rows.ensures in
    ap survey_of_text text ∙ sealed_back c.args.survey.now c.args.names.now lawful

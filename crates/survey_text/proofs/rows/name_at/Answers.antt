-- The name at a place is that field of the names.
use Rattle.std.proofs.Common.{string_bytes, sym, ◌∙◌}
use Rattle.std.proofs.lemmas.Bool.{ltb-true, ltb-false}
use Rattle.survey_text.proofs.ListFacts.{field_get, field_missing}
use Rattle.survey_text.proofs.rows.name_at.Goals as goal

pub returns-in-Some : goal.returns-in-Some
returns-in-Some c =
    let told = c.in-Some.ensures.lookup in
    c.as_str.ensures.value ∙ field_get string_bytes c.args.names.now c.args.place c.in-Some.name.now (ltb-true _ _ (sym told.0)) told.1

pub returns-in-None : goal.returns-in-None
returns-in-None c = field_missing string_bytes c.args.names.now c.args.place (ltb-false _ _ (sym c.in-None.ensures.lookup.0))

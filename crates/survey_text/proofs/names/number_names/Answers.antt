-- Each number is the next name, and all together are lawful names.
use Rattle.std.proofs.Common.{◌∷◌, [], map, string_bytes, ap, ◌∙◌, arith}
use Rattle.std.proofs.lemmas.List.{map-append}
use Rattle.survey_text.proofs.NameFacts.{numbers_more, numbers_all}
use Rattle.survey_text.proofs.NumbersLawful.{numbers_lawful}
use Rattle.survey_text.specs.Names.{number_names, lawful_names}
use Rattle.survey_text.proofs.names.number_names.Goals as goal

pub loop-number-preserved : goal.loop-number-preserved
loop-number-preserved c =
    let loop = c.loop-number in
    let text = c.in_ok-format.ensures.ok in
    let items = ap (map string_bytes) c.in_ok-push.ensures.items ∙ map-append string_bytes loop.names.items (c.in_ok-format.field-0 ∷ []) in
    rw (items, text) (numbers_more (map string_bytes loop.names.items) loop.number-counter c.args.places _ (omega arith) loop.invariant)

pub returns-clause-lawful : goal.returns-clause-lawful
returns-clause-lawful c =
    let all = numbers_all (map string_bytes c.loop-number.names.items) c.loop-number.number-counter c.args.places (number_names 0 c.args.places)
    c.loop-number-test.false c.loop-number.invariant in
    ap (lawful_names c.args.places) all ∙ numbers_lawful c.args.places (omega arith)

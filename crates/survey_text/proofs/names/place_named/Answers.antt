-- A name is found or passed.
use Rattle.std.proofs.Common.{◌≡◌, true, false, bytes_eq, string_bytes, ap, ◌∙◌, arith}
use Rattle.survey_text.proofs.NameFacts.{named_found, named_passed}
use Rattle.survey_text.proofs.names.place_named.Goals as goal

pub returns-then-eq-clause-value : goal.returns-then-eq-clause-value
returns-then-eq-clause-value c =
    let same : true ≡ bytes_eq (string_bytes c.index-names-number.result) c.args.word.now = c.if-eq.ensures ∙ ap (λ z. bytes_eq z c.args.word.now) c.as_bytes.ensures.value in
    named_found string_bytes c.args.names.now c.loop-number.number c.index-names-number.result c.args.word.now (omega arith) c.index-names-number.is same c.loop-number.invariant

pub loop-number-preserved : goal.loop-number-preserved
loop-number-preserved c =
    let other : false ≡ bytes_eq (string_bytes c.index-names-number.result) c.args.word.now = c.if-eq.ensures ∙ ap (λ z. bytes_eq z c.args.word.now) c.as_bytes.ensures.value in
    named_passed string_bytes c.args.names.now c.loop-number.number c.index-names-number.result c.args.word.now (omega arith) c.index-names-number.is other c.loop-number.invariant

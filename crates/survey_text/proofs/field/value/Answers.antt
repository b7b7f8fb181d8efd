-- Digits behind a number that is too large write one that is.
use Rattle.std.proofs.Common.{◌<◌, arith}
use Rattle.std.specs.Str.Parse.{digits_value}
use Rattle.survey_text.proofs.FieldFacts.{digits_beyond, too_large}
use Rattle.survey_text.proofs.field.value.Goals as goal

pub returns-then-value-from : goal.returns-then-value-from
returns-then-value-from c =
    let inv = c.loop-rest.invariant in
    let beyond = digits_beyond c.loop-rest.value c.loop-rest.rest.now c.in-len1-up.len_at_least inv.0 in
    let larger : c.args.most < digits_value 10 c.args.digits.now = omega (arith, beyond, inv.1, c.from.ensures, c.from-in-len1-up.ensures, c.if-value-from.true) in
    too_large (digits_value 10 c.args.digits.now) c.args.most larger

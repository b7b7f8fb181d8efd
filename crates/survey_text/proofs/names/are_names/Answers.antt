-- A name is one for the next place, or the names are none.
use Rattle.std.proofs.Common.{string_bytes, arith}
use Rattle.survey_text.proofs.NameFacts.{names_stop, names_go}
use Rattle.survey_text.proofs.names.are_names.Goals as goal

pub returns-in-Err : goal.returns-in-Err
returns-in-Err c =
    let names = c.args.names.now in
    let told = rw c.as_bytes.ensures.value at c.in-Err.ensures.err in
    names_stop string_bytes names c.loop-number.number c.index-names-number.result _ _ (omega arith) c.index-names-number.is told c.loop-number.invariant

pub loop-number-preserved : goal.loop-number-preserved
loop-number-preserved c =
    let names = c.args.names.now in
    let told = rw c.as_bytes.ensures.value at c.in-Ok.ensures.ok in
    names_go string_bytes names c.loop-number.number c.index-names-number.result _ _ (omega arith) c.index-names-number.is told c.loop-number.invariant

-- The turns that are left give what the file says; the last one gives it.
use Rattle.std.proofs.Common.{Err, sym, ap, ◌∙◌}
use Rattle.std.proofs.lemmas.Result.{err_from_is_err_and, IfOk-from_err}
use Rattle.survey.specs.Contents.{contents}
use Rattle.survey.specs.Edits.{answer_of}
use Rattle.survey_file.proofs.Turning.{at_end, after_err, after_ok}
use Rattle.survey_file.proofs.reader.fill.Goals as goal

pub loop-s-preserved : goal.loop-s-preserved
loop-s-preserved c =
    let told = c.in_ok-s.ensures in
    after_ok c.args.bytes.now c.loop-s.s c.in_ok-s.s (contents c.loop-s.draft) (contents c.turn.new.draft)
    c.loop-s.invariant (sym c.is_ended.ensures ∙ c.loop-s-test.true) told.state told.draft told.goes.0 told.goes.1

pub returns-in_err-s : goal.returns-in_err-s
returns-in_err-s c =
    let p = err_from_is_err_and c.from_residual.result c.from_residual.ensures.1 in
    let refused = after_err c.args.bytes.now c.loop-s.s (contents c.loop-s.draft) _
    c.loop-s.invariant (sym c.is_ended.ensures ∙ c.loop-s-test.true) c.in_err-s.ensures.state in
    record {
      answer = p.1 ∙ ap Err p.2 ∙ ap (answer_of tt) (sym refused);
      draft = IfOk-from_err c.from_residual.result _ c.from_residual.ensures.0;
    }

pub returns : goal.returns
returns c =
    let whole = at_end c.args.bytes.now c.loop-s.s (contents c.loop-s.draft) c.loop-s.invariant (sym c.is_ended.ensures ∙ c.loop-s-test.false) in
    record { answer = ap (answer_of tt) (sym whole); draft = whole }

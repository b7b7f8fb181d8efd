-- Nothing is printed of a file that is read.
use Rattle.std.proofs.Common.{◌≡◌, Some, sym, ap, ◌∙◌}
use Rattle.std.specs.Option.{option_map}
use Rattle.std.specs.Result.{result_ok}
use Rattle.std.proofs.lemmas.Result.{on_ok_weaker}
use Rattle.survey.specs.Sealing.{sealed_contents}
use Rattle.survey_file.specs.Decode.{decode}
use Rattle.answers.specs.Line.{line_rows}
use Rattle.answers.specs.Plans.{IsPlanAnswer}
use Rattle.answers.specs.Texts.{page_bytes}
use Rattle.answers.proofs.Printed.{read_printed}
use Rattle.answers.proofs.line.answer_file.Goals as goal

pub returns-in-Some : goal.returns-in-Some
returns-in-Some g c =
    let told = c.in_ok-survey.ensures in
    let contents = sealed_contents c.in-Some.survey in
    let read : Some contents ≡ result_ok (decode c.args.file.now) =
    ap (option_map sealed_contents) (sym c.in-Some.is) ∙ told.survey in
    on_ok_weaker c.answer_plan.result
    (read_printed g.W.Write c.args.out.now c.survey_in.new.out c.answer_plan.new.out c.args.file.now
    (λ d. IsPlanAnswer d c.args.request line_rows page_bytes) contents read told.printed)
    c.answer_plan.ensures

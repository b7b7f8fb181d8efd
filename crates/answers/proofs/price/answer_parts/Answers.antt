-- Nothing is printed of a file that is read.
use Rattle.std.proofs.Common.{◌≡◌, Some, sym, ap, ◌∙◌, subst}
use Rattle.std.specs.Option.{option_map}
use Rattle.std.specs.Result.{result_ok}
use Rattle.std.proofs.lemmas.Result.{on_ok_weaker}
use Rattle.survey.specs.Sealing.{sealed_contents}
use Rattle.survey_file.specs.Decode.{decode}
use Rattle.answers.specs.Texts.{page_bytes}
use Rattle.answers.specs.Price.{steps_in, IsStepsAnswer}
use Rattle.answers.proofs.Printed.{read_printed}
use Rattle.answers.proofs.price.answer_parts.Goals as goal

pub returns-in-Some : goal.returns-in-Some
returns-in-Some g c =
    let parts = c.args.parts.now in
    let told = c.in_ok-survey.ensures in
    let contents = sealed_contents c.in-Some.survey in
    let read : Some contents ≡ result_ok (decode parts.file.now) =
    ap (option_map sealed_contents) (sym c.in-Some.is) ∙ told.survey in
    let steps = c.deref.ensures.value ∙ c.in_ok-steps.ensures in
    on_ok_weaker c.print_sheet.result
    (λ printed.
    read_printed g.W.Write c.args.out.now c.survey_in.new.out c.print_sheet.new.out parts.file.now
    (λ d. IsStepsAnswer d parts.request (steps_in parts.steps.now) page_bytes) contents read told.printed
    (printed.0, subst (λ s. IsStepsAnswer contents parts.request s page_bytes printed.0) steps printed.1, printed.2))
    c.print_sheet.ensures

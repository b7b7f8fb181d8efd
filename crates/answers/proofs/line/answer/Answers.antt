-- The survey file is behind the request.
use Rattle.std.proofs.Common.{◌≡◌, ℕ, ◌-◌, List, length, take, drop, sym, ◌∙◌, subst, arith}
use Rattle.std.specs.Prelude.{MatchResult, Ok, Result}
use Rattle.std.proofs.lemmas.List.{length-drop, take_all}
use Rattle.std.proofs.lemmas.Result.{on_ok_weaker}
use Rattle.subject.specs.declared.refusal.Fault.{Fault}
use Rattle.subject.specs.declared.run.Request.{Request}
use Rattle.sheet.specs.declared.refused.Refused.TheVariants.{File}
use Rattle.sheet.specs.Refused.{refusal_text}
use Rattle.answers.specs.declared.line.TheConstants.{REQUEST_LENGTH}
use Rattle.answers.specs.Line.{line_rows}
use Rattle.answers.specs.Texts.{FileAnswer, page_bytes}
use Rattle.answers.specs.Plans.{IsPlanAnswer}
use Rattle.answers.proofs.line.answer.Goals as goal

-- the text is what is answered to a request before a file
abbrev Answered : List ℕ → Result Request Fault → List ℕ → Type 0
Answered file request text =
    MatchResult request (λ q. FileAnswer file (λ c. IsPlanAnswer c q line_rows page_bytes) text) (λ f. text ≡ refusal_text (File f))

pub returns-in-Ok : goal.returns-in-Ok
returns-in-Ok g c =
    let input = c.args.input.now in
    let read = sym c.in-Ok.is ∙ c.request_in.ensures.value in
    let file = drop REQUEST_LENGTH input in
    let rest : take (length input - REQUEST_LENGTH) file ≡ file =
    take_all (length input - REQUEST_LENGTH) file (let long = length-drop REQUEST_LENGTH input in omega arith) in
    on_ok_weaker c.answer_file.result
    (λ printed. (
      printed.0,
      subst (λ r. Answered file r printed.0) read (subst (λ f. Answered f (Ok c.in-Ok.request) printed.0) rest printed.1),
      printed.2,
    ))
    c.answer_file.ensures

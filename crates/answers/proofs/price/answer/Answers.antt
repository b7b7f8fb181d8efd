-- The parts are those of the input.
use Rattle.std.proofs.Common.{◌≡◌, ℕ, List, length, drop, sym, subst}
use Rattle.std.specs.Prelude.{MatchBool, slice_range}
use Rattle.std.proofs.lemmas.Bool.{le-ltb}
use Rattle.std.proofs.lemmas.Result.{on_ok_weaker}
use Rattle.subject.specs.declared.refusal.Refusal.TheVariants.{CutShort}
use Rattle.subject.specs.declared.run.Request.{Request}
use Rattle.survey_file.specs.Fields.{fault_of}
use Rattle.sheet.specs.declared.refused.Refused.TheVariants.{File}
use Rattle.sheet.specs.Refused.{refusal_text}
use Rattle.sheet.specs.Requests.{request_at}
use Rattle.answers.specs.Texts.{FileAnswer, page_bytes}
use Rattle.answers.specs.Price.{steps_in, steps_start, file_start, IsStepsAnswer, IsPartsOf, IsPriceAnswer}
use Rattle.answers.proofs.price.answer.Goals as goal

-- the text is what is answered to these parts
abbrev Answered : Request → List ℕ → List ℕ → List ℕ → Type 0
Answered q bytes file text = FileAnswer file (λ c. IsStepsAnswer c q (steps_in bytes) page_bytes) text

whole : (input : List ℕ) (q : Request) (bytes file text : List ℕ) → IsPartsOf input q bytes file → Answered q bytes file text
    → IsPriceAnswer input text
whole input q bytes file text p answer =
    let start = file_start input in
    let of_file = subst (λ f. Answered q bytes f text) p.file answer in
    let of_steps = subst (λ b. Answered q b (drop start input) text) p.steps of_file in
    let of_request = subst (λ r. Answered r (slice_range input steps_start start) (drop start input) text) p.request of_steps in
    subst (λ b. MatchBool b (text ≡ refusal_text (File (fault_of CutShort 0)))
    (Answered (request_at input) (slice_range input steps_start start) (drop start input) text))
    (sym (le-ltb (length input) start p.long)) of_request

pub returns-in-Some : goal.returns-in-Some
returns-in-Some g c =
    let parts = c.in-Some.parts in
    on_ok_weaker c.answer_parts.result
    (λ printed. (
      printed.0,
      whole c.args.input.now parts.request parts.steps.now parts.file.now printed.0 c.in-Some.ensures.some printed.1,
      printed.2,
    ))
    c.answer_parts.ensures

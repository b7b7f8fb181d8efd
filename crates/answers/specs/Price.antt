-- What the program that prices steps prints, for every input. Stands on requests and steps in bytes, on survey files
-- and on sheets.
use Rattle.std.specs.Prelude.{◌≡◌, ℕ, ◌+◌, ◌*◌, ◌<◌, ◌≤◌, ◌⊎◌, List, [], ◌∷◌, length, drop, ◌==◌, MatchBool, nat_lt, slice_range}
use Rattle.subject.specs.declared.refusal.Refusal.TheVariants.{CutShort}
use Rattle.subject.specs.declared.run.Step.{Step}
use Rattle.subject.specs.declared.run.Request.{Request}
use Rattle.survey.specs.Contents.{Contents}
use Rattle.survey.specs.SurveySite.{money_problem}
use Rattle.survey_file.specs.Fields.{fault_of, two_at}
use Rattle.sheet.specs.declared.refused.Refused.TheVariants.{File}
use Rattle.sheet.specs.Refused.{refusal_text}
use Rattle.sheet.specs.Requests.{request_at}
use Rattle.sheet.specs.Printing.{SheetShown, RefusalShown}
use Rattle.answers.specs.Texts.{FileAnswer, page_bytes}

-- the steps in bytes: of each the way in two bytes, high byte first, and a byte that is 1 for a mark
abbrev pub steps_in : List ℕ → List Step
steps_in (high ∷ low ∷ mark ∷ rest) = record { way = high * 256 + low; mark = mark == 1 } ∷ steps_in rest
steps_in few = []

-- the steps begin behind the six bytes of the request and the two bytes of their number
abbrev pub steps_start : ℕ
steps_start = 8

-- the survey file begins behind so many steps, of three bytes each, as the two bytes behind the request say
abbrev pub file_start : List ℕ → ℕ
file_start input = steps_start + 3 * two_at input 6

-- so many bytes of its input are read at most: those of 65,535 steps and the longest survey file are 213,773
abbrev pub price_input : ℕ
price_input = 213774

-- the input ends before
abbrev pub IsCutShort : List ℕ → Type 0
IsCutShort input = length input < file_start input

-- it does not, and these are the request, the bytes of the steps, and the survey file
pub record IsPartsOf (input : List ℕ) (q : Request) (bytes behind : List ℕ) : Type 0 where
  pub long : file_start input ≤ length input
  pub request : q ≡ request_at input
  pub steps : bytes ≡ slice_range input steps_start (file_start input)
  pub file : behind ≡ drop (file_start input) input

-- the text is the sheet of the steps, on a page of so many bytes, or the line of the first cause why there is none
abbrev pub IsStepsAnswer : Contents → Request → List Step → ℕ → List ℕ → Type 0
IsStepsAnswer c q steps page text =
    SheetShown (money_problem c q) steps page text ⊎ RefusalShown (money_problem c q) steps page text

-- an input that is cut short is refused like a file; else the steps are priced over the survey of the file
abbrev pub IsPriceAnswer : List ℕ → List ℕ → Type 0
IsPriceAnswer input text =
    MatchBool (nat_lt (length input) (file_start input))
    (text ≡ refusal_text (File (fault_of CutShort 0)))
    (FileAnswer (drop (file_start input) input)
    (λ c. IsStepsAnswer c (request_at input)
    (steps_in (slice_range input steps_start (file_start input))) page_bytes) text)

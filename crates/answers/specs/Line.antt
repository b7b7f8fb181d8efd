-- What the program that plans a line prints, for every input. Stands on requests in bytes, survey files and plans.
use Rattle.std.specs.Prelude.{◌≡◌, List, ℕ, drop, MatchResult}
use Rattle.sheet.specs.declared.refused.Refused.TheVariants.{File}
use Rattle.sheet.specs.Refused.{refusal_text}
use Rattle.sheet.specs.Requests.{request_in}
use Rattle.answers.specs.Texts.{FileAnswer, page_bytes}
use Rattle.answers.specs.Plans.{IsPlanAnswer}

-- so many rows of each sort a plan has: enough for 64 places with losses of 0 to 60
abbrev pub line_rows : ℕ
line_rows = 3904

-- so many bytes of its input are read at most: the request and the longest survey file have 17,166
abbrev pub line_input : ℕ
line_input = 17206

-- a request of six bytes that is cut short is refused like a file; behind one is a survey file, over which the request
-- is answered
abbrev pub IsLineAnswer : List ℕ → List ℕ → Type 0
IsLineAnswer input text =
    MatchResult (request_in input)
    (λ q. FileAnswer (drop 6 input) (λ c. IsPlanAnswer c q line_rows page_bytes) text)
    (λ f. text ≡ refusal_text (File f))

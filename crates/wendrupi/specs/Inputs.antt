-- What the bytes of a survey say: those of a survey file, whose places have their numbers as names, or those of a text.
-- Stands on the decoder of survey files and on surveys as text.
use Rattle.std.specs.Prelude.{ℕ, Bool, cond, List, [], ◌∷◌, length, Result, Ok, Err, ◌==◌, vec_items}
use Rattle.std.specs.List.{starts_with}
use Rattle.subject.specs.declared.refusal.Fault.{Fault}
use Rattle.survey.specs.Contents.{Contents}
use Rattle.survey_file.specs.Decode.{decode}
use Rattle.survey_text.specs.declared.trouble.Trouble.{Trouble}
use Rattle.survey_text.specs.Names.{number_names}
use Rattle.survey_text.specs.Texts.{NamedContents, survey_of_text}
use Rattle.survey_text.specs.Written.{with_names}
use Rattle.wendrupi.specs.declared.input.Unread.{Unread}
use Rattle.wendrupi.specs.declared.input.Unread.TheVariants.{File, Text}
use Rattle.wendrupi.specs.declared.input.NamedSurvey.{NamedSurvey}

-- a survey file begins with the bytes 1, 0 and 2
abbrev pub is_survey_file : List ℕ → Bool
is_survey_file bytes = starts_with (λ a b. a == b) bytes (1 ∷ 0 ∷ 2 ∷ [])

-- what a survey file says; its places have their numbers as names
abbrev pub said_by_file : Result Contents Fault → Result NamedContents Unread
said_by_file (Ok c) = Ok (record { contents = c; names = number_names 0 (length c.places) })
said_by_file (Err f) = Err (File f)

-- what a text says
abbrev pub said_by_text : Result NamedContents Trouble → Result NamedContents Unread
said_by_text (Ok c) = Ok c
said_by_text (Err t) = Err (Text t)

-- what the bytes of a survey say
abbrev pub survey_of : List ℕ → Result NamedContents Unread
survey_of bytes = cond (is_survey_file bytes) (said_by_file (decode bytes)) (said_by_text (survey_of_text bytes))

-- the contents of a survey with the names of its places
abbrev pub named_contents : NamedSurvey → NamedContents
named_contents s = with_names s.survey (vec_items s.names)

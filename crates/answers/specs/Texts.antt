-- Texts that programs print: a sheet that has to fit on a page, and what is printed of a survey file. Stands on
-- refusal lines and on the decoder of survey files.
use Rattle.std.specs.Prelude.{◌≡◌, ℕ, cond, List, length, MatchResult, nat_le}
use Rattle.subject.specs.declared.refusal.Refusal.TheVariants.{NoRoom}
use Rattle.survey.specs.Contents.{Contents}
use Rattle.survey_file.specs.Decode.{decode}
use Rattle.sheet.specs.declared.refused.Refused.TheVariants.{Call, File}
use Rattle.sheet.specs.Refused.{refusal_text}

-- so many bytes the sheet may have that a program prints
abbrev pub page_bytes : ℕ
page_bytes = 65536

-- a text that fits on a page of so many bytes; in place of one that does not, the line `REFUSED 18`
abbrev pub on_page : ℕ → List ℕ → List ℕ
on_page page text = cond (nat_le (length text) page) text (refusal_text (Call NoRoom))

-- the first fault of a survey file with its byte place, or what is answered over the contents that it has
abbrev pub FileAnswer : List ℕ → (Contents → List ℕ → Type 0) → List ℕ → Type 0
FileAnswer file Answer text =
    MatchResult (decode file) (λ c. Answer c text) (λ f. text ≡ refusal_text (File f))

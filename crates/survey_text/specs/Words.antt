-- Troubles in words. Stands on the causes and on the refusals.
use Rattle.std.specs.Prelude.{ℕ, List, ◌++◌, codes, decimal}
use Rattle.subject.specs.declared.refusal.Refusal.{Refusal}
use Rattle.subject.specs.declared.refusal.Refusal.TheVariants.{DraftFull, WrongEnds, WrongLetter, TooLong, TooDear}
use Rattle.subject.specs.Refusals.{number}
use Rattle.survey_text.specs.declared.trouble.Column.{Column}
use Rattle.survey_text.specs.declared.trouble.Column.TheVariants.{Name, Repeater, From, To, Cable, Metres}
use Rattle.survey_text.specs.declared.trouble.Column.TheVariants.{Price, Grade}
use Rattle.survey_text.specs.declared.trouble.Cause.{Cause}
use Rattle.survey_text.specs.declared.trouble.Cause.TheVariants.{NotText, ControlCharacter, NoKind, Blank}
use Rattle.survey_text.specs.declared.trouble.Cause.TheVariants.{NotNumber, TooLarge, NotLetter, TakenName}
use Rattle.survey_text.specs.declared.trouble.Cause.TheVariants.{OtherNumber, NoPlace, Behind, Refused}
use Rattle.survey_text.specs.declared.trouble.Trouble.{Trouble}

abbrev pub column_text : Column → List ℕ
column_text Name = codes "NAME"
column_text Repeater = codes "REPEATER"
column_text From = codes "FROM"
column_text To = codes "TO"
column_text Cable = codes "CABLE"
column_text Metres = codes "METRES"
column_text Price = codes "PRICE"
column_text Grade = codes "GRADE"

-- what a draft refuses; it gives no other refusal
abbrev pub refusal_text : Refusal → List ℕ
refusal_text DraftFull = codes "a survey has at most 256 places and 1,024 ways"
refusal_text WrongEnds = codes "a way leads from a place to another"
refusal_text WrongLetter = codes "the cable is not U, S or F"
refusal_text TooLong = codes "over 200 metres"
refusal_text TooDear = codes "a price over 1,000,000 cents"
refusal_text _ = codes "no entry of a survey"

-- a cause, with the word that it speaks of
abbrev pub cause_text : Cause → List ℕ → List ℕ
cause_text NotText w = codes "a field is no UTF-8 text"
cause_text ControlCharacter w = codes "a field holds a control character, such as a line break"
cause_text NoKind w = codes "the row begins with \"" ++ (w ++ codes "\", not with place or way")
cause_text (Blank c) w = column_text c ++ codes " is blank"
cause_text (NotNumber c) w = column_text c ++ (codes " is \"" ++ (w ++ codes "\", not a whole number"))
cause_text (TooLarge c) w = column_text c ++ (codes " is \"" ++ (w ++ codes "\", too large"))
cause_text NotLetter w = codes "CABLE is \"" ++ (w ++ codes "\", not one of the letters U, S and F")
cause_text TakenName w = codes "there is a place \"" ++ (w ++ codes "\" already")
cause_text OtherNumber w = codes "the name \"" ++ (w ++ codes "\" is the number of another place")
cause_text (NoPlace c) w = codes "there is no place \"" ++ (w ++ codes "\"")
cause_text (Behind c) w =
    codes "\"" ++ (w ++ (codes "\" stands behind " ++ (column_text c ++ codes ", the last field")))
cause_text (Refused r) w = codes "REFUSED " ++ (decimal (number r) ++ (codes ": " ++ refusal_text r))

abbrev pub trouble_text : Trouble → List ℕ
trouble_text t = codes "line " ++ (decimal t.line ++ (codes ": " ++ cause_text t.cause t.word))

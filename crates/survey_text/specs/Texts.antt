-- What a text says: a survey with the names of its places, or the first trouble. Its rows are the records that it
-- has as CSV, behind a byte-order mark. Stands on the rest, on csv and on the edits of a draft.
use Rattle.std.specs.Prelude.{◌≡◌, ℕ, suc, ◌+◌, Bool, true, false, cond, not, ◌&&◌, ◌||◌, ◌==◌, List, [], ◌∷◌}
use Rattle.std.specs.Prelude.{◌++◌, Option, Result, Ok, Err, unwrap_or, bytes_eq, codes, is_none, drop}
use Rattle.std.specs.Prelude.{vec_items}
use Rattle.subject.specs.declared.refusal.Refusal.{Refusal}
use Rattle.csv.specs.Reading.{default_config, records, strip_bom}
use Rattle.csv.specs.Records.{fields_of, Row as ByteRow}
use Rattle.survey.specs.declared.entry.WayEntry.{WayEntry}
use Rattle.survey.specs.Checks.{then}
use Rattle.survey.specs.Contents.{Contents, contents, no_contents}
use Rattle.survey.specs.Edits.{add_place, add_way}
use Rattle.survey_text.specs.declared.trouble.Cause.{Cause}
use Rattle.survey_text.specs.declared.trouble.Cause.TheVariants.{NotText, ControlCharacter, NoKind, Blank}
use Rattle.survey_text.specs.declared.trouble.Cause.TheVariants.{NotNumber, TooLarge, NotLetter, TakenName}
use Rattle.survey_text.specs.declared.trouble.Cause.TheVariants.{OtherNumber, NoPlace, Behind, Refused}
use Rattle.survey_text.specs.declared.trouble.Column.TheVariants.{Name, Repeater, From, To, Cable, Metres}
use Rattle.survey_text.specs.declared.trouble.Column.TheVariants.{Price, Grade}
use Rattle.survey_text.specs.declared.trouble.Trouble.{Trouble}
use Rattle.survey_text.specs.declared.text.SurveyText.{SurveyText}
use Rattle.survey_text.specs.declared.reader.Reading.{Reading}
use Rattle.survey_text.specs.Columns.{index}
use Rattle.survey_text.specs.Fields.{Row, field, first_filled, row_check, number_of, repeater_of, letter_of}
use Rattle.survey_text.specs.Fields.{end_check, word_of_field}
use Rattle.survey_text.specs.Lines.{row_line}
use Rattle.survey_text.specs.Names.{texts, name_of, end_of}

-- the contents of a survey, and the names of its places by their numbers
pub record NamedContents : Type 0 where
  pub contents : Contents
  pub names : List (List ℕ)

-- what a row of a place says
pub record NamedPlace : Type 0 where
  pub name : List ℕ
  pub repeater : Option ℕ

-- place,NAME,REPEATER
abbrev pub place_in_row : List (List ℕ) → Row → Result NamedPlace Cause
place_in_row names r =
    then (name_of names (field r 1)) (λ name.
    then (repeater_of Repeater (field r 2)) (λ repeater.
    then (end_check Repeater r) (λ _. Ok (record { name = name; repeater = repeater }))))

-- way,FROM,TO,CABLE,METRES,PRICE,GRADE
abbrev pub way_in_row : List (List ℕ) → Row → Result WayEntry Cause
way_in_row names r =
    then (end_of From names (field r 1)) (λ from.
    then (end_of To names (field r 2)) (λ to.
    then (letter_of (field r 3)) (λ letter.
    then (number_of Metres 65535 (field r 4)) (λ metres.
    then (number_of Price 4294967295 (field r 5)) (λ price.
    then (number_of Grade 255 (field r 6)) (λ grade.
    then (end_check Grade r) (λ _.
    Ok (record { from = from; to = to; letter = letter; grade = grade; metres = metres; price = price }))))))))

-- a refusal of the survey is a cause
abbrev pub as_cause : {X : Type 0} → Result X Refusal → Result X Cause
as_cause (Ok x) = Ok x
as_cause (Err r) = Err (Refused r)

-- what a row enters: a place with its name, or a way
abbrev pub enter_place : NamedContents → Row → Result NamedContents Cause
enter_place e r =
    then (place_in_row e.names r) (λ p.
    then (as_cause (add_place e.contents p.repeater)) (λ c.
    Ok (record { contents = c; names = e.names ++ p.name ∷ [] })))

abbrev pub enter_way : NamedContents → Row → Result NamedContents Cause
enter_way e r =
    then (way_in_row e.names r) (λ w.
    then (as_cause (add_way e.contents w)) (λ c.
    Ok (record { contents = c; names = e.names })))

abbrev pub place_word : List ℕ
place_word = codes "place"

abbrev pub way_word : List ℕ
way_word = codes "way"

abbrev pub name_word : List ℕ
name_word = codes "name"

abbrev pub enter_row : NamedContents → Row → Result NamedContents Cause
enter_row e r =
    cond (bytes_eq (field r 0) place_word) (enter_place e r)
    (cond (bytes_eq (field r 0) way_word) (enter_way e r) (Err NoKind))

-- a remark is a row that begins with #
abbrev pub begins_with_hash : List ℕ → Bool
begins_with_hash [] = false
begins_with_hash (b ∷ bs) = b == 35

-- blank rows and remarks say nothing
abbrev pub says_nothing : Row → Bool
says_nothing r = is_none (first_filled r) || begins_with_hash (field r 0)

-- the heading begins with the fields place and name
abbrev pub is_heading : Row → Bool
is_heading r = bytes_eq (field r 0) place_word && bytes_eq (field r 1) name_word

-- how far a reading has come: what was entered, and whether a row has said something
pub record Progress : Type 0 where
  pub so_far : NamedContents
  pub is_begun : Bool

abbrev pub in_rows : NamedContents → Progress
in_rows e = record { so_far = e; is_begun = true }

-- one row: each field has to be a text; the first row that says something may be the heading
abbrev pub turn_of : Progress → Row → Result Progress Cause
turn_of s r =
    then (row_check r) (λ _.
    cond (says_nothing r) (Ok s)
    (cond (not s.is_begun && is_heading r) (Ok (in_rows s.so_far))
    (then (enter_row s.so_far r) (λ e. Ok (in_rows e)))))

-- the field that a cause speaks of, or nothing
abbrev pub word_of : Cause → Row → List ℕ
word_of NotText r = []
word_of ControlCharacter r = []
word_of NoKind r = field r 0
word_of (Blank c) r = []
word_of (NotNumber c) r = field r (index c)
word_of (TooLarge c) r = field r (index c)
word_of NotLetter r = field r (index Cable)
word_of TakenName r = field r (index Name)
word_of OtherNumber r = field r (index Name)
word_of (NoPlace c) r = field r (index c)
word_of (Behind c) r = unwrap_or (first_filled (drop (index c + 1) r)) []
word_of (Refused e) r = []

-- the trouble of a row that begins on a line
abbrev pub trouble_on : ℕ → Row → Cause → Trouble
trouble_on line r cause = record { line = line; cause = cause; word = word_of_field (word_of cause r) }

-- the trouble of the row with this number, from 0
abbrev pub trouble_of : List ℕ → ℕ → Row → Cause → Trouble
trouble_of text k r cause = trouble_on (row_line text k) r cause

-- a cause, told as the trouble of a row
abbrev pub with_trouble : List ℕ → ℕ → Row → Result Progress Cause → Result Progress Trouble
with_trouble text k r (Ok s) = Ok s
with_trouble text k r (Err cause) = Err (trouble_of text k r cause)

-- the rows from the one with this number on, in their order, up to the first trouble
abbrev pub walk : List ℕ → ℕ → Progress → List Row → Result NamedContents Trouble
walk text k s [] = Ok s.so_far
walk text k s (r ∷ rs) = then (with_trouble text k r (turn_of s r)) (λ next. walk text (suc k) next rs)

-- nothing is entered at first
abbrev pub nothing_read : Progress
nothing_read = record { so_far = record { contents = no_contents; names = [] }; is_begun = false }

-- what a text says
abbrev pub survey_of_text : List ℕ → Result NamedContents Trouble
survey_of_text text = walk (strip_bom text) 0 nothing_read (records default_config (strip_bom text))

-- what stands in a survey that was read, and in one that is being read
abbrev pub named_contents : SurveyText → NamedContents
named_contents t = record { contents = contents t.draft; names = texts (vec_items t.names) }

abbrev pub progress : Reading → Progress
progress r = record { so_far = named_contents r.survey; is_begun = r.is_begun }

-- a call that answers r and leaves x does what is wanted: x where that is accepted, else the same cause
abbrev pub Does : {X E : Type 0} → Result X E → Result (Unit {0}) E → X → Type 0
Does wanted (Ok _) x = wanted ≡ Ok x
Does wanted (Err e) x = wanted ≡ Err e

-- so does a call that enters a row into a survey
abbrev pub Enters : (NamedContents → Row → Result NamedContents Cause)
    → SurveyText → ByteRow → Result (Unit {0}) Cause → SurveyText → Type 0
Enters enter old row r new = Does (enter (named_contents old) (fields_of row)) r (named_contents new)

-- a call that answers r tells what is wanted
abbrev pub Tells : Result NamedContents Trouble → Result SurveyText Trouble → Type 0
Tells wanted (Ok s) = wanted ≡ Ok (named_contents s)
Tells wanted (Err t) = wanted ≡ Err t

-- As long as no field holds a line break, each row stands on a line of its own: the reader leaves a row at the end of its line. So the
-- row with a number stands on the line with that number among those that are not blank.
use Rattle.std.proofs.Common.{◌≡◌, ◌⊎◌, ℕ, zero, suc, ◌+◌, ◌≤◌, Bool, true, false, cond, ◌||◌, ◌==◌, if◌then◌else◌, List, [], ◌∷◌, ◌++◌, length, take, Option, Some, None, Ok, Err, is_ok, subst, refl, sym, ap, ◌∙◌, inl, inr, arith}
use Rattle.std.specs.List.{list_any}
use Rattle.std.proofs.lemmas.Bool.{cases_Bool}
use Rattle.std.proofs.lemmas.Bool.Decides.{nat_tests}
use Rattle.csv.specs.Machine.{Read, next_record, step, in_field, start_field, is_end, ends_at_end, fields_after, field_after}
use Rattle.csv.specs.Reading.{default_config, records, records_from}
use Rattle.csv.specs.declared.parser.Action.{Action}
use Rattle.csv.specs.declared.parser.Action.TheVariants as act
use Rattle.csv.specs.declared.parser.State.{State}
use Rattle.csv.specs.declared.parser.State.TheVariants as st
use Rattle.survey.specs.PassedChecks.{then_passed}
use Rattle.survey_text.specs.declared.trouble.Cause.{Cause}
use Rattle.survey_text.specs.declared.trouble.Cause.TheVariants.{NotText, ControlCharacter}
use Rattle.survey_text.specs.Fields.{Row, is_control, text_check, row_check}
use Rattle.survey_text.specs.Texts.{Progress, turn_of}
use Rattle.std.specs.Str.{is_utf8}
use Rattle.survey_text.specs.Lines.{is_break, past_breaks, behind, line_at, row_line}
use Rattle.survey_text.specs.Filled.{past_line, from_line, filled_line}
use Rattle.survey_text.proofs.RowFacts.{record_leaves}

-- a field of a row holds a line break
abbrev pub has_break : Row → Bool
has_break r = list_any (list_any is_break) r

any_append : {X : Type 0} (p : X → Bool) (xs ys : List X) → list_any p (xs ++ ys) ≡ (list_any p xs || list_any p ys)
any_append p [] ys = refl
any_append p (x ∷ xs) ys = elim (cases_Bool (p x)) [
  | inl so ↦ rw so refl
  | inr other ↦ rw other (any_append p xs ys)
]

or_true : (a b : Bool) → b ≡ true → (a || b) ≡ true
or_true true b h = refl
or_true false b h = h

-- a line break that was read stays in the row
abbrev Holds : List (List ℕ) → List ℕ → Type 0
Holds fields field = (has_break fields || list_any is_break field) ≡ true

or_false : (a : Bool) → (a || false) ≡ a
or_false true = refl
or_false false = refl

holds_ended : (fields : List (List ℕ)) (field : List ℕ) → Holds fields field → has_break (fields ++ (field ∷ [])) ≡ true
holds_ended fields field h =
    any_append (list_any is_break) fields (field ∷ []) ∙ ap (λ b. has_break fields || b) (or_false (list_any is_break field)) ∙ h

holds_copied : (a b c : Bool) → (a || b) ≡ true → (a || (b || c)) ≡ true
holds_copied true b c h = refl
holds_copied false true c h = refl
holds_copied false false c h = absurd (cc h)

holds_after : (a : Action) (c : ℕ) (fields : List (List ℕ)) (field : List ℕ) → Holds fields field → Holds (fields_after a fields field) (field_after a c field)
holds_after act.Skip c fields field h = h
holds_after act.Copy c fields field h =
    ap (λ b. has_break fields || b) (any_append is_break field (c ∷ [])) ∙ holds_copied (has_break fields) (list_any is_break field) _ h
holds_after act.EndField c fields field h = rw (holds_ended fields field h) refl
holds_after act.EndRecord c fields field h = rw (holds_ended fields field h) refl

end_holds : (a : Action) (fields : List (List ℕ)) (field : List ℕ) → is_end a ≡ true → Holds fields field → has_break (fields_after a fields field) ≡ true
end_holds act.Skip fields field e h = absurd (cc e)
end_holds act.Copy fields field e h = absurd (cc e)
end_holds act.EndField fields field e h = absurd (cc e)
end_holds act.EndRecord fields field e h = holds_ended fields field h

last_holds : (b : Bool) (fields : List (List ℕ)) (field : List ℕ) (p : Read) → (if b then Some (fields ++ (field ∷ []), st.StartRecord, []) else None) ≡ Some p
    → Holds fields field → has_break p.0 ≡ true
last_holds true fields field p e h = let same : fields ++ (field ∷ []) ≡ p.0 = cc in ap has_break (sym same) ∙ holds_ended fields field h
last_holds false fields field p e h = absurd (cc e)

row_holds : (s : State) (fields : List (List ℕ)) (field xs : List ℕ) (p : Read) → next_record default_config s fields field xs ≡ Some p → Holds fields field → has_break p.0 ≡ true
unfolding next_record
row_holds s fields field [] p e h = last_holds (ends_at_end s) fields field p e h
row_holds s fields field (c ∷ rest) p e h = elim (cases_Bool (is_end (step default_config s c).1)) [
  | inl ended ↦
      let all : Some (fields_after (step default_config s c).1 fields field, (step default_config s c).0, rest) ≡ Some p = rw ended at e in
      let same : fields_after (step default_config s c).1 fields field ≡ p.0 = cc in
      ap has_break (sym same) ∙ end_holds (step default_config s c).1 fields field ended h
  | inr more ↦
      row_holds (step default_config s c).0 _ _ rest p (rw more at e) (holds_after (step default_config s c).1 c fields field h)
]

-- the reader stands in a row
abbrev InRow : State → Type 0
InRow st.StartRecord = ⊥
InRow st.AfterCr = ⊥
InRow st.StartField = Unit {0}
InRow st.InField = Unit {0}
InRow st.InQuoted = Unit {0}
InRow st.AfterQuote = Unit {0}
InRow st.InEscape = ⊥
InRow st.InComment = ⊥

-- a byte that is no line break leads on in the row
abbrev Stays : State × Action → Type 0
Stays x = InRow x.0 × (is_end x.1 ≡ false)

stays_by : (b : Bool) (x y : State × Action) → Stays x → Stays y → Stays (if b then x else y)
stays_by true x y h k = h
stays_by false x y h k = k

field_stays : (c : ℕ) → is_break c ≡ false → Stays (in_field default_config c)
field_stays c h = rw h (stays_by (c == 44) (st.StartField, act.EndField) (st.InField, act.Copy) (tt, refl) (tt, refl))

start_stays : (c : ℕ) → is_break c ≡ false → Stays (start_field default_config c)
start_stays c h = stays_by (c == 34) (st.InQuoted, act.Skip) (in_field default_config c) (tt, refl) (field_stays c h)

step_stays : (s : State) (c : ℕ) → InRow s → is_break c ≡ false → Stays (step default_config s c)
step_stays st.StartRecord c inside h = absurd inside
step_stays st.AfterCr c inside h = absurd inside
step_stays st.StartField c inside h = start_stays c h
step_stays st.InField c inside h = field_stays c h
step_stays st.InQuoted c inside h = stays_by (c == 34) (st.AfterQuote, act.Skip) (st.InQuoted, act.Copy) (tt, refl) (tt, refl)
step_stays st.AfterQuote c inside h = stays_by (c == 34) (st.InQuoted, act.Copy) (in_field default_config c) (tt, refl) (field_stays c h)
step_stays st.InEscape c inside h = absurd inside
step_stays st.InComment c inside h = absurd inside

-- a line break ends the row, or stands in a field
no_mark : (c : ℕ) → is_break c ≡ true → ((c == 44) ≡ false) × ((c == 34) ≡ false)
no_mark c h = (grind (arith, nat_tests), grind (arith, nat_tests))

break_ends : (s : State) (fields : List (List ℕ)) (field : List ℕ) (c : ℕ) (rest : List ℕ) (p : Read) → InRow s → is_break c ≡ true
    → next_record default_config s fields field (c ∷ rest) ≡ Some p → has_break p.0 ≡ false → rest ≡ p.2
unfolding next_record
break_ends st.StartRecord fields field c rest p inside h e plain = absurd inside
break_ends st.AfterCr fields field c rest p inside h e plain = absurd inside
break_ends st.StartField fields field c rest p inside h e plain =
    let m = no_mark c h in
    let all = rw (m.0, m.1, h) at e in cc
break_ends st.InField fields field c rest p inside h e plain =
    let m = no_mark c h in
    let all = rw (m.0, h) at e in cc
break_ends st.InQuoted fields field c rest p inside h e plain =
    let m = no_mark c h in
    let on : next_record default_config st.InQuoted fields (field ++ (c ∷ [])) rest ≡ Some p = rw m.1 at e in
    let in_field_now : list_any is_break (field ++ (c ∷ [])) ≡ true = any_append is_break field (c ∷ []) ∙ or_true (list_any is_break field) _ (rw h refl) in
    let held = row_holds st.InQuoted fields (field ++ (c ∷ [])) rest p on (or_true (has_break fields) _ in_field_now) in
    absurd (cc (sym held ∙ plain))
break_ends st.AfterQuote fields field c rest p inside h e plain =
    let m = no_mark c h in
    let all = rw (m.0, m.1, h) at e in cc
break_ends st.InEscape fields field c rest p inside h e plain = absurd inside
break_ends st.InComment fields field c rest p inside h e plain = absurd inside

last_left : (b : Bool) (fields : List (List ℕ)) (field : List ℕ) (p : Read) → (if b then Some (fields ++ (field ∷ []), st.StartRecord, []) else None) ≡ Some p → [] ≡ p.2
last_left true fields field p e = cc
last_left false fields field p e = absurd (cc e)

-- the reader leaves a row at the end of its line
line_left : (s : State) (fields : List (List ℕ)) (field xs : List ℕ) (p : Read) → InRow s → next_record default_config s fields field xs ≡ Some p → has_break p.0 ≡ false
    → past_breaks p.2 ≡ past_breaks (past_line xs)
unfolding next_record
line_left s fields field [] p inside e plain = ap past_breaks (sym (last_left (ends_at_end s) fields field p e))
line_left s fields field (c ∷ rest) p inside e plain = elim (cases_Bool (is_break c)) [
  | inl ended ↦
      let left = break_ends s fields field c rest p inside ended e plain in
      rw (ended, ended) (ap past_breaks (sym left))
  | inr other ↦
      let on = step_stays s c inside other in
      rw other (line_left (step default_config s c).0 _ _ rest p on.0 (rw on.1 at e) plain)
]

-- the same of a row that is yet to begin
begins_field : (c : ℕ) (rest : List ℕ) → is_break c ≡ false
    → next_record default_config st.StartRecord [] [] (c ∷ rest) ≡ next_record default_config st.StartField [] [] (c ∷ rest)
unfolding next_record
begins_field c rest h = rw h refl

record_left : (xs : List ℕ) (p : Read) → next_record default_config st.StartRecord [] [] xs ≡ Some p → has_break p.0 ≡ false
    → past_breaks p.2 ≡ past_breaks (past_line (past_breaks xs))
unfolding next_record
record_left [] p e plain = absurd (cc e)
record_left (c ∷ rest) p e plain = elim (cases_Bool (is_break c)) [
  | inl ended ↦ rw ended (record_left rest p (rw ended at e) plain)
  | inr other ↦ rw other (line_left st.StartField [] [] (c ∷ rest) p tt (sym (begins_field c rest other) ∙ e) plain)
]

-- behind a carriage return a record begins as it does at the start
after_cr : (c : ℕ) (rest : List ℕ) → next_record default_config st.AfterCr [] [] (c ∷ rest) ≡ next_record default_config st.StartRecord [] [] (c ∷ rest)
unfolding next_record
after_cr c rest = elim (cases_Bool (c == 10)) [
  | inl feed ↦ elim (cases_Bool (c == 13)) [ inl cr ↦ rw (feed, cr) refl | inr other ↦ rw (feed, other) refl ]
  | inr other ↦ rw other refl
]

no_record : (p : Read) → next_record default_config st.AfterCr [] [] [] ≡ Some p → ⊥
unfolding next_record
no_record p e = cc e

start_left : (s : State) (xs : List ℕ) (p : Read) → ends_at_end s ≡ false → next_record default_config s [] [] xs ≡ Some p → has_break p.0 ≡ false
    → past_breaks p.2 ≡ past_breaks (past_line (past_breaks xs))
start_left st.StartRecord xs p between e plain = record_left xs p e plain
start_left st.AfterCr [] p between e plain = absurd (no_record p e)
start_left st.AfterCr (c ∷ rest) p between e plain = record_left (c ∷ rest) p (sym (after_cr c rest) ∙ e) plain
start_left st.StartField xs p between e plain = absurd (cc between)
start_left st.InField xs p between e plain = absurd (cc between)
start_left st.InQuoted xs p between e plain = absurd (cc between)
start_left st.AfterQuote xs p between e plain = absurd (cc between)
start_left st.InEscape xs p between e plain = absurd (cc between)
start_left st.InComment xs p between e plain = absurd (cc between)

-- rows that follow one another stand on lines that follow one another
from_same : (xs ys : List ℕ) (k : ℕ) → past_breaks xs ≡ past_breaks ys → from_line xs k ≡ from_line ys k
from_same xs ys zero h = h
from_same xs ys (suc k) h = ap (λ z. past_breaks (past_line z)) (from_same xs ys k h)

from_next : (xs : List ℕ) (k : ℕ) → from_line (past_line (past_breaks xs)) k ≡ from_line xs (suc k)
from_next xs zero = refl
from_next xs (suc k) = ap (λ z. past_breaks (past_line z)) (from_next xs k)

abbrev pub AllPlain : List Row → Type 0
AllPlain [] = Unit {0}
AllPlain (r ∷ rs) = (has_break r ≡ false) × AllPlain rs

some_or_none : {X : Type 0} (o : Option X) → (o ≡ None) ⊎ ((x : X) × (o ≡ Some x))
some_or_none None = inl refl
some_or_none (Some x) = inr (x, refl)

lines_agree : (k n : ℕ) (s : State) (xs : List ℕ) (rows : List Row) → ends_at_end s ≡ false → rows ≡ records_from default_config n s xs → k ≤ length rows
    → AllPlain (take k rows) → past_breaks (behind k s xs) ≡ from_line xs k
unfolding records_from
lines_agree zero n s xs rows between all few plain = refl
lines_agree (suc k) zero s xs rows between all few plain = absurd (omega (arith, ap length all))
lines_agree (suc k) (suc n) s xs rows between all few plain = elim (some_or_none (next_record default_config s [] [] xs)) [
  | inl e ↦ absurd (omega (arith, ap length (rw e at all)))
  | inr (p, e) ↦
      let rest = records_from default_config n p.1 p.2 in
      let split : rows ≡ p.0 ∷ rest = rw e at all in
      let all_plain : (has_break p.0 ≡ false) × AllPlain (take k rest) = subst (λ z. AllPlain (take (suc k) z)) split plain in
      let long = ap length split in
      let left = record_leaves s [] [] xs p e in
      let more = lines_agree k n p.1 p.2 rest left.0 refl (omega arith) all_plain.1 in
      rw e (more ∙ from_same p.2 (past_line (past_breaks xs)) k (start_left s xs p between e all_plain.0) ∙ from_next xs k)
]

-- the row with a number stands on the line with that number among those that are not blank, where no row before it holds a line break
pub row_stands : (xs : List ℕ) (rows : List Row) (k : ℕ) → rows ≡ records default_config xs → k ≤ length rows → AllPlain (take k rows) → filled_line xs k ≡ row_line xs k
row_stands xs rows k all few plain = ap (λ z. line_at xs z) (sym (lines_agree k (length xs + 1) st.StartRecord xs rows refl all few plain))

-- a row that has passed holds no line break
no_break : (b : ℕ) → is_control b ≡ false → is_break b ≡ false
no_break b h = grind (arith, nat_tests)

or_both : (a b : Bool) → (a || b) ≡ false → (a ≡ false) × (b ≡ false)
or_both false b h = (refl, h)
or_both true b h = absurd (cc h)

field_plain : (f : List ℕ) → list_any is_control f ≡ false → list_any is_break f ≡ false
field_plain [] h = refl
field_plain (b ∷ f) h =
    let k = or_both (is_control b) (list_any is_control f) h in
    rw (no_break b k.0) (field_plain f k.1)

text_by : (a b : Bool) → is_ok {E = Cause} (cond a (cond b (Err ControlCharacter) (Ok (tt {0}))) (Err NotText)) ≡ true → b ≡ false
text_by true false h = refl
text_by true true h = absurd (cc h)
text_by false b h = absurd (cc h)

pub checked_plain : (r : Row) → is_ok (row_check r) ≡ true → has_break r ≡ false
checked_plain [] h = refl
checked_plain (f ∷ r) h =
    let both = then_passed (text_check f) (λ _. row_check r) h in
    let good : is_ok (text_check f) ≡ true = ap is_ok both.1 in
    let plain = field_plain f (text_by (is_utf8 f) (list_any is_control f) good) in
    rw plain (checked_plain r both.2)

pub turned_plain : (s t : Progress) (r : Row) → turn_of s r ≡ Ok t → has_break r ≡ false
turned_plain s t r h =
    let passed = then_passed (row_check r) _ (ap is_ok h) in
    checked_plain r (ap is_ok passed.1)

pub plain_more : (rows : List Row) (r : Row) → AllPlain rows → has_break r ≡ false → AllPlain (rows ++ r ∷ [])
plain_more [] r all plain = (plain, tt)
plain_more (q ∷ rows) r all plain = (all.0, plain_more rows r all.1 plain)

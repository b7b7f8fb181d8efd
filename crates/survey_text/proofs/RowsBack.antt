-- The rows that are written of a survey enter its places and ways.
use Rattle.std.proofs.Common.{◌≡◌, ℕ, ◌<◌, ◌≤◌, Bool, true, false, cond, List, [], ◌∷◌, ◌++◌, length, Option, Some, None, Result, Ok, Err, is_ok, encode_utf8, ltb, eqb, refl, sym, ap, ◌∙◌, subst, arith}
use Rattle.std.specs.Str.{is_utf8, chars}
use Rattle.std.proofs.lemmas.Bool.{eqb-true, ltb-true}
use Rattle.std.proofs.lemmas.Bool.Decides.{nat_tests}
use Rattle.subject.specs.declared.refusal.Refusal.{Refusal}
use Rattle.subject.specs.declared.refusal.Refusal.TheVariants.{DraftFull, WrongLetter}
use Rattle.survey.specs.declared.draft.TheConstants.{MOST_DRAFT_PLACES, MOST_DRAFT_WAYS}
use Rattle.survey.specs.declared.entry.TheConstants.{MOST_CENTS}
use Rattle.survey.specs.Card.{row_of, loss_of, entry_of}
use Rattle.survey.specs.declared.entry.Place.{Place}
use Rattle.survey.specs.declared.entry.WayEntry.{WayEntry}
use Rattle.survey.specs.Checks.{then, price_check, place_check, ends_check, way_check, good_way}
use Rattle.survey.specs.PassedChecks.{cond_first, cond_second, then_passed, way_ends}
use Rattle.survey.specs.Contents.{Contents}
use Rattle.survey.specs.Edits.{of_repeater, add_place, add_way}
use Rattle.survey_text.specs.declared.trouble.Column.TheVariants.{Repeater, From, To, Metres, Price, Grade}
use Rattle.survey_text.specs.Fields.{text_check, letter_of}
use Rattle.survey_text.specs.Names.{name_of, are_names}
use Rattle.survey_text.specs.Texts.{NamedContents, in_rows, place_word, way_word, turn_of, nothing_read}
use Rattle.survey_text.specs.Written.{heading, place_fields, way_fields}
use Rattle.survey_text.proofs.NumberBack.{decimal_text, number_back, repeater_back}
use Rattle.survey_text.proofs.NamesBack.{name_passed, name_means, end_back}

-- the words of the text are texts
place_text : text_check place_word ≡ Ok tt
unfolding is_utf8 chars lib.Utf8.encode
place_text = refl

way_text : text_check way_word ≡ Ok tt
unfolding is_utf8 chars lib.Utf8.encode
way_text = refl

-- the heading enters nothing
pub turn_heading : turn_of nothing_read heading ≡ Ok (in_rows nothing_read.so_far)
unfolding is_utf8 chars lib.Utf8.encode
turn_heading = refl

unit_ok : {E : Type 0} (r : Result (Unit {0}) E) → is_ok r ≡ true → r ≡ Ok tt
unit_ok (Ok u) h = refl
unit_ok (Err e) h = absurd (cc h)

abbrev pub with_places : Contents → List Place → Contents
with_places c ps = record { places = c.places ++ ps; ways = c.ways }

abbrev pub with_ways : Contents → List WayEntry → Contents
with_ways c ws = record { places = c.places; ways = c.ways ++ ws }

-- a good entry is taken
place_taken : (c : Contents) (r : Option ℕ) → length c.places < MOST_DRAFT_PLACES → is_ok (place_check r) ≡ true → add_place c r ≡ Ok (with_places c (of_repeater r ∷ []))
place_taken c r few good =
    let room : ltb (length c.places) MOST_DRAFT_PLACES ≡ true = grind (arith, nat_tests) in
    ap (λ b. cond b (then (place_check r) (λ _. Ok (with_places c (of_repeater r ∷ [])))) (Err DraftFull)) room
    ∙ ap (λ x. then x (λ _. Ok (with_places c (of_repeater r ∷ [])))) (unit_ok (place_check r) good)

way_taken : (c : Contents) (w : WayEntry) → length c.ways < MOST_DRAFT_WAYS → is_ok (way_check (length c.places) w) ≡ true → add_way c w ≡ Ok (with_ways c (w ∷ []))
way_taken c w few good =
    let room : ltb (length c.ways) MOST_DRAFT_WAYS ≡ true = grind (arith, nat_tests) in
    ap (λ b. cond b (then (way_check (length c.places) w) (λ _. Ok (with_ways c (w ∷ [])))) (Err DraftFull)) room
    ∙ ap (λ x. then x (λ _. Ok (with_ways c (w ∷ [])))) (unit_ok (way_check (length c.places) w) good)

-- the row of a place enters it, with its name
price_low : (p : ℕ) → is_ok (place_check (Some p)) ≡ true → p ≤ MOST_CENTS
price_low p good = grind (arith, nat_tests)

pub turn_place : (e : NamedContents) (name : List ℕ) (r : Option ℕ) → is_ok (name_of e.names name) ≡ true → length e.contents.places < 256 → is_ok (place_check r) ≡ true
    → turn_of (in_rows e) (place_fields name r) ≡ Ok (in_rows (record { contents = with_places e.contents (of_repeater r ∷ []); names = e.names ++ name ∷ [] }))
turn_place e name None is_name few good =
    let passed = name_passed e.names name is_name in
    let taken = place_taken e.contents None few good in
    rw (place_text, passed.text, passed.check, taken) refl
turn_place e name (Some p) is_name few good =
    let passed = name_passed e.names name is_name in
    let low = price_low p good in
    let digits = decimal_text p (omega arith) in
    let price = repeater_back Repeater p (omega arith) in
    let taken = place_taken e.contents (Some p) few good in
    rw (place_text, passed.text, digits, passed.check, price, taken) refl

-- a cable letter is a text of one byte
record LetterBack (letter : ℕ) : Type 0 where
  text : text_check (encode_utf8 letter) ≡ Ok tt
  back : letter_of (encode_utf8 letter) ≡ Ok letter

letter_u : LetterBack 85
unfolding is_utf8 chars lib.Utf8.encode
letter_u = record { text = refl; back = refl }

letter_s : LetterBack 83
unfolding is_utf8 chars lib.Utf8.encode
letter_s = record { text = refl; back = refl }

letter_f : LetterBack 70
unfolding is_utf8 chars lib.Utf8.encode
letter_f = record { text = refl; back = refl }

letter_by : (b c d : Bool) (letter metres l : ℕ) → eqb letter 85 ≡ b → eqb letter 83 ≡ c → eqb letter 70 ≡ d
    → entry_of (cond b (Ok 0) (cond c (Ok 1) (cond d (Ok 2) (Err WrongLetter)))) metres ≡ Ok l → LetterBack letter
letter_by true c d letter metres l u s f h = subst LetterBack (sym (eqb-true letter 85 u)) letter_u
letter_by false true d letter metres l u s f h = subst LetterBack (sym (eqb-true letter 83 s)) letter_s
letter_by false false true letter metres l u s f h = subst LetterBack (sym (eqb-true letter 70 f)) letter_f
letter_by false false false letter metres l u s f h = absurd (cc h)

letter_back : (letter metres l : ℕ) → loss_of letter metres ≡ Ok l → LetterBack letter
letter_back letter metres l h = letter_by (eqb letter 85) (eqb letter 83) (eqb letter 70) letter metres l refl refl refl h

metres_by : (r : Result ℕ Refusal) (metres l : ℕ) → entry_of r metres ≡ Ok l → metres ≤ 200
metres_by (Ok row) metres l h = grind (arith, nat_tests)
metres_by (Err e) metres l h = absurd (cc h)

-- the figures of a way that has passed
record Figures (n : ℕ) (w : WayEntry) : Type 0 where
  from : w.from < n
  to : w.to < n
  letter : LetterBack w.letter
  metres : w.metres ≤ 200
  price : w.price ≤ MOST_CENTS
  grade : w.grade < 256
  passed : is_ok (way_check n w) ≡ true

price_passed : (p : ℕ) → is_ok (price_check p) ≡ true → p ≤ MOST_CENTS
price_passed p good = grind (arith, nat_tests)

figures : (n : ℕ) (w : WayEntry) → good_way n w ≡ true → Figures n w
figures n w good =
    let passed = cond_first (is_ok (way_check n w)) (ltb w.grade 256) good in
    let byte = cond_second (is_ok (way_check n w)) (ltb w.grade 256) good in
    let ends = way_ends n w passed in
    let first = then_passed (ends_check n w) (λ _. then (loss_of w.letter w.metres) (λ _. price_check w.price)) passed in
    let cable = then_passed (loss_of w.letter w.metres) (λ _. price_check w.price) first.2 in
    record {
      from = ends.0;
      to = ends.1;
      letter = letter_back w.letter w.metres cable.0 cable.1;
      metres = metres_by (row_of w.letter) w.metres cable.0 cable.1;
      price = price_passed w.price cable.2;
      grade = ltb-true w.grade 256 byte;
      passed = passed;
    }

-- the row of a way enters it
pub turn_way : (e : NamedContents) (w : WayEntry) → are_names [] e.names ≡ true → length e.names ≡ length e.contents.places → good_way (length e.contents.places) w ≡ true
    → length e.contents.ways < MOST_DRAFT_WAYS → turn_of (in_rows e) (way_fields e.names w) ≡ Ok (in_rows (record { contents = with_ways e.contents (w ∷ []); names = e.names }))
turn_way e w lawful many good few =
    let fig = figures (length e.contents.places) w good in
    let metres_low = fig.metres in
    let price_low = fig.price in
    let grade_low = fig.grade in
    let from_there : w.from < length e.names = omega (arith, fig.from) in
    let to_there : w.to < length e.names = omega (arith, fig.to) in
    let from = name_means e.names w.from lawful from_there in
    let to = name_means e.names w.to lawful to_there in
    let letter = fig.letter in
    let taken = way_taken e.contents w few fig.passed in
    rw (
      way_text,
      from.text,
      to.text,
      letter.text,
      decimal_text w.metres (omega arith),
      decimal_text w.price (omega arith),
      decimal_text w.grade (omega arith),
      end_back From e.names w.from lawful from_there,
      end_back To e.names w.to lawful to_there,
      letter.back,
      number_back Metres 65535 w.metres (omega arith) (omega arith),
      number_back Price 4294967295 w.price (omega arith) (omega arith),
      number_back Grade 255 w.grade (omega arith) (omega arith),
      taken,
    ) refl

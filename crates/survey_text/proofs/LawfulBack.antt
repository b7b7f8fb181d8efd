-- The names of a survey that was read are lawful: each was one for the next place when it was entered.
use Rattle.std.proofs.Common.{◌≡◌, ℕ, suc, ◌+◌, Bool, true, false, cond, not, ◌&&◌, ◌==◌, List, [], ◌∷◌, ◌++◌, length, Option, Result, Ok, Err, is_ok, IfOk, bytes_eq, ltb, refl, sym, ap, ◌∙◌, subst, inl, inr, append_assoc, length-append, arith}
use Rattle.std.proofs.lemmas.Bool.{cases_Bool}
use Rattle.std.proofs.lemmas.Bool.Decides.{nat_tests}
use Rattle.std.proofs.lemmas.List.{append-nil}
use Rattle.subject.specs.declared.refusal.Refusal.{Refusal}
use Rattle.subject.specs.declared.refusal.Refusal.TheVariants.{DraftFull}
use Rattle.csv.specs.Reading.{default_config, records, strip_bom}
use Rattle.survey.specs.declared.draft.TheConstants.{MOST_DRAFT_PLACES, MOST_DRAFT_WAYS}
use Rattle.survey.specs.declared.entry.WayEntry.{WayEntry}
use Rattle.survey.specs.Checks.{then, place_check, way_check}
use Rattle.survey.specs.Contents.{Contents}
use Rattle.survey.specs.Edits.{of_repeater, add_place, add_way}
use Rattle.survey.specs.declared.entry.Place.{Place}
use Rattle.survey_text.specs.declared.trouble.Cause.{Cause}
use Rattle.survey_text.specs.declared.trouble.Trouble.{Trouble}
use Rattle.survey_text.specs.declared.trouble.Column.TheVariants.{Repeater}
use Rattle.survey_text.specs.Fields.{Row, field, text_check, row_check, repeater_of, end_check}
use Rattle.survey_text.specs.Names.{name_check, name_of, are_names}
use Rattle.survey_text.specs.Texts.{NamedContents, NamedPlace, Progress, place_in_row, way_in_row, as_cause, enter_place, enter_way, enter_row, place_word, way_word, says_nothing, is_heading, turn_of, with_trouble, walk, survey_of_text, nothing_read, named_contents, Tells}
use Rattle.survey_text.specs.declared.text.SurveyText.{SurveyText}
use Rattle.survey_text.specs.Written.{is_lawful}
use Rattle.survey_text.proofs.NumberBack.{both}

-- lawful names, as many as places
record Named (c : NamedContents) : Type 0 where
  names : are_names [] c.names ≡ true
  many : length c.names ≡ length c.contents.places

then_ok : {X Y E : Type 0} (r : Result X E) (f : X → Result Y E) (y : Y) → then r f ≡ Ok y → (x : X) × (r ≡ Ok x) × (f x ≡ Ok y)
then_ok (Ok x) f y h = (x, refl, h)
then_ok (Err e) f y h = absurd (cc h)

-- a name more
names_last : (before names : List (List ℕ)) (n : List ℕ) → are_names before names ≡ true → is_ok (name_of (before ++ names) n) ≡ true → are_names before (names ++ n ∷ []) ≡ true
names_last before [] n h ok = let here : is_ok (name_of before n) ≡ true = ap (λ b. is_ok (name_of b n)) (sym (append-nil before)) ∙ ok in rw here refl
names_last before (m ∷ names) n h ok =
    let parts = both (is_ok (name_of before m)) (are_names (before ++ m ∷ []) names) h in
    rw parts.0 (names_last (before ++ m ∷ []) names n parts.1 (ap (λ b. is_ok (name_of b n)) (append_assoc before (m ∷ []) names) ∙ ok))

name_ok : (names : List (List ℕ)) (f y : List ℕ) → name_of names f ≡ Ok y → is_ok (name_of names y) ≡ true
name_ok names f y h =
    let text = then_ok (text_check f) (λ _. then (name_check names f) (λ _. Ok f)) y h in
    let check = then_ok (name_check names f) (λ _. Ok f) y text.2 in
    let same : f ≡ y = cc check.2 in
    ap (λ z. is_ok (name_of names z)) (sym same) ∙ ap is_ok h

place_name : (names : List (List ℕ)) (r : Row) (p : NamedPlace) → place_in_row names r ≡ Ok p → is_ok (name_of names p.name) ≡ true
place_name names r p h =
    let name = then_ok (name_of names (field r 1)) _ p h in
    let repeater = then_ok (repeater_of Repeater (field r 2)) _ p name.2 in
    let end = then_ok (end_check Repeater r) _ p repeater.2 in
    let same : name.0 ≡ p.name = let e : ◌≡◌ {A = Result NamedPlace Cause} (Ok (record { name = name.0; repeater = repeater.0 })) (Ok p) = end.2 in ap name_in e in
    name_ok names (field r 1) p.name (name.1 ∙ ap Ok same)
  where
    name_in : Result NamedPlace Cause → List ℕ
    name_in (Ok q) = q.name
    name_in (Err e) = []

cause_ok : {X : Type 0} (r : Result X Refusal) (x : X) → as_cause r ≡ Ok x → r ≡ Ok x
cause_ok (Ok y) x h = cc
cause_ok (Err e) x h = absurd (cc h)

-- a place more, and a way more
place_count : (c d : Contents) (r : Option ℕ) → add_place c r ≡ Ok d → length d.places ≡ length c.places + 1
place_count c d r h = by (ltb (length c.places) MOST_DRAFT_PLACES) h where
  places_of : Result Contents Refusal → List Place
  places_of (Ok e) = e.places
  places_of (Err e) = []

  by : (b : Bool) → cond b (then (place_check r) (λ _. Ok (record { places = c.places ++ of_repeater r ∷ []; ways = c.ways }))) (Err DraftFull) ≡ Ok d
      → length d.places ≡ length c.places + 1
  by true e =
      let taken = then_ok (place_check r) _ d e in
      ap (λ z. length (places_of z)) (sym taken.2) ∙ length-append c.places (of_repeater r ∷ [])
  by false e = absurd (cc e)

way_count : (c d : Contents) (w : WayEntry) → add_way c w ≡ Ok d → length d.places ≡ length c.places
way_count c d w h = by (ltb (length c.ways) MOST_DRAFT_WAYS) h where
  places_of : Result Contents Refusal → ℕ
  places_of (Ok e) = length e.places
  places_of (Err e) = 0

  by : (b : Bool) → cond b (then (way_check (length c.places) w) (λ _. Ok (record { places = c.places; ways = c.ways ++ w ∷ [] }))) (Err DraftFull) ≡ Ok d
      → length d.places ≡ length c.places
  by true e = let taken = then_ok (way_check (length c.places) w) _ d e in ap places_of (sym taken.2)
  by false e = absurd (cc e)

named_by : (c d : NamedContents) → c ≡ d → Named c → Named d
named_by c d same n = subst Named same n

ok_same : {X E : Type 0} (x y : X) → ◌≡◌ {A = Result X E} (Ok x) (Ok y) → x ≡ y
ok_same x y h = cc

place_keeps : (c d : NamedContents) (r : Row) → enter_place c r ≡ Ok d → Named c → Named d
place_keeps c d r h n =
    let place = then_ok (place_in_row c.names r) _ d h in
    let taken = then_ok (as_cause (add_place c.contents place.0.repeater)) _ d place.2 in
    let count = place_count c.contents taken.0 place.0.repeater (cause_ok _ taken.0 taken.1) in
    let longer = length-append c.names (place.0.name ∷ []) in
    let many : length (c.names ++ place.0.name ∷ []) ≡ length taken.0.places = omega (arith, n.many) in
    named_by _ d (ok_same _ d taken.2) (record { names = names_last [] c.names place.0.name n.names (place_name c.names r place.0 place.1); many = many })

way_keeps : (c d : NamedContents) (r : Row) → enter_way c r ≡ Ok d → Named c → Named d
way_keeps c d r h n =
    let way = then_ok (way_in_row c.names r) _ d h in
    let taken = then_ok (as_cause (add_way c.contents way.0)) _ d way.2 in
    let count = way_count c.contents taken.0 way.0 (cause_ok _ taken.0 taken.1) in
    named_by _ d (ok_same _ d taken.2) (record { names = n.names; many = n.many ∙ sym count })

row_keeps : (c d : NamedContents) (r : Row) → enter_row c r ≡ Ok d → Named c → Named d
row_keeps c d r h n = elim (cases_Bool (bytes_eq (field r 0) place_word)) [
  | inl place ↦ place_keeps c d r (rw place at h) n
  | inr other ↦ elim (cases_Bool (bytes_eq (field r 0) way_word)) [
    | inl way ↦ way_keeps c d r (rw (other, way) at h) n
    | inr neither ↦ absurd (cc (rw (other, neither) at h))
  ]
]

turn_keeps : (s t : Progress) (r : Row) → turn_of s r ≡ Ok t → Named s.so_far → Named t.so_far
turn_keeps s t r h n =
    let checked = then_ok (row_check r) _ t h in
    by (says_nothing r) (not s.is_begun && is_heading r) checked.2
  where
    by : (a b : Bool) → cond a (Ok s) (cond b (Ok (record { so_far = s.so_far; is_begun = true })) (then (enter_row s.so_far r) (λ e. Ok (record { so_far = e; is_begun = true })))) ≡ Ok t
        → Named t.so_far
    by true b e = named_by s.so_far t.so_far (ap (λ z. z.so_far) (ok_same s t e)) n
    by false true e = named_by s.so_far t.so_far (ap (λ z. z.so_far) (ok_same _ t e)) n
    by false false e =
        let row = then_ok (enter_row s.so_far r) _ t e in
        named_by row.0 t.so_far (ap (λ z. z.so_far) (ok_same _ t row.2)) (row_keeps s.so_far row.0 r row.1 n)

trouble_ok : (text : List ℕ) (k : ℕ) (r : Row) (o : Result Progress Cause) (t : Progress) → with_trouble text k r o ≡ Ok t → o ≡ Ok t
trouble_ok text k r (Ok s) t h = cc
trouble_ok text k r (Err e) t h = absurd (cc h)

walk_keeps : (text : List ℕ) (k : ℕ) (s : Progress) (rows : List Row) (c : NamedContents) → walk text k s rows ≡ Ok c → Named s.so_far → Named c
walk_keeps text k s [] c h n = named_by s.so_far c (ok_same s.so_far c h) n
walk_keeps text k s (r ∷ rows) c h n =
    let next = then_ok (with_trouble text k r (turn_of s r)) _ c h in
    walk_keeps text (suc k) next.0 rows c next.2 (turn_keeps s next.0 r (trouble_ok text k r (turn_of s r) next.0 next.1) n)

same_count : (m n : ℕ) → m ≡ n → (m == n) ≡ true
same_count m n h = grind (arith, nat_tests)

pub read_lawful : (text : List ℕ) (c : NamedContents) → survey_of_text text ≡ Ok c → is_lawful c ≡ true
read_lawful text c h =
    let named = walk_keeps (strip_bom text) 0 nothing_read (records default_config (strip_bom text)) c h (record { names = refl; many = refl }) in
    rw (same_count (length c.names) (length c.contents.places) named.many) named.names

tells_lawful : (text : List ℕ) (r : Result SurveyText Trouble) → Tells (survey_of_text text) r → IfOk r (λ s. is_lawful (named_contents s) ≡ true)
tells_lawful text (Ok s) h = read_lawful text (named_contents s) h
tells_lawful text (Err t) h = tt

-- what a call tells of a text
pub told_lawful : {E : Type 0} (text : List ℕ) (wanted : Result NamedContents Trouble) (r : Result (Result SurveyText Trouble) E) → wanted ≡ survey_of_text text
    → IfOk r (Tells wanted) → IfOk r (λ r. IfOk r (λ s. is_lawful (named_contents s) ≡ true))
told_lawful text wanted (Ok r) same h = tells_lawful text r (subst (λ z. Tells z r) same h)
told_lawful text wanted (Err e) same h = tt

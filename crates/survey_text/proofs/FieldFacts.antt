-- Facts about the fields of a row: csv's field is ours, what stands from a field on, and what from_utf8 answers.
use Rattle.std.proofs.Common.{◌≡◌, ℕ, zero, suc, ◌+◌, ◌*◌, ◌-◌, ◌<◌, ◌≤◌, true, false, cond, List, [], ◌∷◌, length, drop, Option, Some, None, Result, Ok, Err, is_ok, IsUtf8, MatchResult, refl, sym, ap, ◌∙◌, Bor, inl, inr, add-one, ◌==◌, leb, get_or, take, arith}
use Rattle.std.specs.Str.{is_utf8}
use Rattle.std.proofs.lemmas.Bool.{cases_Bool}
use Rattle.std.proofs.lemmas.Str.{IsUtf8-from_is_utf8, is_utf8-from_IsUtf8}
use Rattle.std.proofs.lemmas.Grind.{common_steps}
use Rattle.std.proofs.lemmas.Bool.Decides.{nat_tests}
use Rattle.std.specs.Char.{is_ascii_digit, digit_value}
use Rattle.std.specs.List.{list_all}
use Rattle.std.specs.Str.Parse.{digits_value_after}
use Rattle.csv.specs.Reading.{strip_bom, is_bom}
use Rattle.csv.specs.Records.{field_at}
use Rattle.survey_text.specs.Fields.{field, first_filled, word_of_field, text_check, row_check}
use Rattle.survey_text.specs.declared.trouble.Cause.{Cause}

-- csv's field by its place
pub field_some : (fs : List (List ℕ)) (i : ℕ) (f : List ℕ) → Some f ≡ field_at fs i → f ≡ field fs i
unfolding field_at
field_some [] i f h = absurd (cc h)
field_some (g ∷ fs) zero f h = cc
field_some (g ∷ fs) (suc i) f h = field_some fs i f h

pub field_none : (fs : List (List ℕ)) (i : ℕ) → ◌≡◌ {A = Option (List ℕ)} None (field_at fs i) → [] ≡ field fs i
unfolding field_at
field_none [] i h = refl
field_none (g ∷ fs) zero h = absurd (cc h)
field_none (g ∷ fs) (suc i) h = field_none fs i h

-- the fields from one on are that field and those behind it
pub drop_field : (fs : List (List ℕ)) (i : ℕ) → i < length fs → drop i fs ≡ field fs i ∷ drop (suc i) fs
drop_field [] i h = absurd (omega arith)
drop_field (g ∷ fs) zero h = refl
drop_field (g ∷ fs) (suc i) h = drop_field fs i (omega arith)

pub drop_past : (fs : List (List ℕ)) (i : ℕ) → length fs ≤ i → drop i fs ≡ []
drop_past [] zero h = refl
drop_past [] (suc i) h = refl
drop_past (g ∷ fs) zero h = absurd (omega arith)
drop_past (g ∷ fs) (suc i) h = drop_past fs i (omega arith)

-- what from_utf8 answers tells whether bytes are UTF-8
pub is_text_ok : (bs : List ℕ) → IsUtf8 bs → true ≡ is_utf8 bs
is_text_ok bs u = sym (is_utf8-from_IsUtf8 bs u)

pub is_text_err : (bs : List ℕ) → (IsUtf8 bs → ⊥) → false ≡ is_utf8 bs
is_text_err bs n = elim (cases_Bool (is_utf8 bs)) [
  | inl so ↦ absurd (n (IsUtf8-from_is_utf8 bs so))
  | inr other ↦ sym other
]

pub is_text_by : {E : Type 0} (Q : E → Type 0) (bs : List ℕ) (r : Result (Bor (List ℕ)) E)
    → MatchResult r (λ s. (s.now ≡ bs) × IsUtf8 bs) (λ e. (IsUtf8 bs → ⊥) × Q e) → is_ok r ≡ is_utf8 bs
is_text_by Q bs (Ok s) h = is_text_ok bs h.1
is_text_by Q bs (Err e) h = is_text_err bs h.0

pub shown_ok : (bs t : List ℕ) → t ≡ bs → IsUtf8 bs → t ≡ word_of_field bs
shown_ok bs t same u = rw (is_utf8-from_IsUtf8 bs u) same

pub shown_err : (bs : List ℕ) → (IsUtf8 bs → ⊥) → [] ≡ word_of_field bs
shown_err bs n = rw (sym (is_text_err bs n)) refl

-- a step from one field to the next, as a search for one that is filled and as a check
pub filled_found : (fs : List (List ℕ)) (i start : ℕ) (f : List ℕ) → i < length fs → f ≡ field fs i → false ≡ (length f == 0)
    → first_filled (drop i fs) ≡ first_filled (drop start fs) → Some f ≡ first_filled (drop start fs)
filled_found fs i start f h is some e =
    let here = drop_field fs i h in
    let there : (length (field fs i) == 0) ≡ false = ap (λ g. length g == 0) (sym is) ∙ sym some in
    let all : first_filled (drop i fs) ≡ Some (field fs i) = rw (here, there) refl in
    ap Some is ∙ sym all ∙ e

pub filled_passed : (fs : List (List ℕ)) (i start : ℕ) (f : List ℕ) → i < length fs → f ≡ field fs i → true ≡ (length f == 0)
    → first_filled (drop i fs) ≡ first_filled (drop start fs) → first_filled (drop (i + 1) fs) ≡ first_filled (drop start fs)
filled_passed fs i start f h is blank e =
    let here = drop_field fs i h in
    let there : (length (field fs i) == 0) ≡ true = ap (λ g. length g == 0) (sym is) ∙ sym blank in
    let all : first_filled (drop i fs) ≡ first_filled (drop (suc i) fs) = rw (here, there) refl in
    rw add-one (sym all ∙ e)

pub check_failed : (fs : List (List ℕ)) (i : ℕ) (f : List ℕ) (e : Cause) → i < length fs → f ≡ field fs i → Err e ≡ text_check f
    → row_check (drop i fs) ≡ row_check fs → Err e ≡ row_check fs
check_failed fs i f e h is bad same =
    let here = drop_field fs i h in
    let there : text_check (field fs i) ≡ Err e = ap text_check (sym is) ∙ sym bad in
    let all : row_check (drop i fs) ≡ Err e = rw (here, there) refl in
    sym all ∙ same

pub check_passed : (fs : List (List ℕ)) (i : ℕ) (f : List ℕ) (u : Unit {0}) → i < length fs → f ≡ field fs i → Ok u ≡ text_check f
    → row_check (drop i fs) ≡ row_check fs → row_check (drop (i + 1) fs) ≡ row_check fs
check_passed fs i f u h is good same =
    let here = drop_field fs i h in
    let there : text_check (field fs i) ≡ Ok u = ap text_check (sym is) ∙ sym good in
    let all : row_check (drop i fs) ≡ row_check (drop (suc i) fs) = rw (here, there) refl in
    rw add-one (sym all ∙ same)

-- digits behind a number only make it larger
digits_more : (n : ℕ) (cs : List ℕ) → n ≤ digits_value_after 10 n cs
digits_more n [] = omega arith
digits_more n (c ∷ cs) = omega (arith, digits_more (n * 10 + digit_value c) cs)

pub digits_beyond : (n : ℕ) (cs : List ℕ) → 1 ≤ length cs → list_all is_ascii_digit cs ≡ true → n * 10 + (get_or cs 0 0 - 48) ≤ digits_value_after 10 n cs
digits_beyond n [] h digits = absurd (omega arith)
digits_beyond n (c ∷ cs) h digits =
    let one : digit_value c ≡ c - 48 = grind (arith, nat_tests) in
    omega (arith, digits_more (n * 10 + digit_value c) cs, one)

pub too_large : (v most : ℕ) → most < v → ◌≡◌ {A = Option ℕ} None (cond (leb v most) (Some v) None)
too_large v most h = grind (arith, nat_tests)

-- a field that has passed is UTF-8
pub checked_text : (f : List ℕ) (u : Unit {0}) → Ok u ≡ text_check f → IsUtf8 f
checked_text f u h = elim (cases_Bool (is_utf8 f)) [
  | inl so ↦ IsUtf8-from_is_utf8 f so
  | inr other ↦ absurd (cc (rw other at h))
]

take_all : (xs : List ℕ) → take (length (0 ∷ 0 ∷ 0 ∷ xs) - 3) xs ≡ xs
take_all xs = grind (arith, common_steps)

-- a text has a byte-order mark or not
pub marked : (xs : List ℕ) → 3 ≤ length xs → get_or xs 0 0 ≡ 239 → get_or xs 1 0 ≡ 187 → get_or xs 2 0 ≡ 191
    → take (length xs - 3) (drop 3 xs) ≡ strip_bom xs
unfolding strip_bom
marked [] h a b c = absurd (omega arith)
marked (x ∷ []) h a b c = absurd (omega arith)
marked (x ∷ y ∷ []) h a b c = absurd (omega arith)
marked (x ∷ y ∷ z ∷ xs) h a b c = rw (a, b, c) (take_all xs)

no_bom : (a b c : ℕ) → (a ≡ 239 → b ≡ 187 → c ≡ 191 → ⊥) → is_bom a b c ≡ false
no_bom a b c h = grind (arith, nat_tests)

pub unmarked : (xs : List ℕ) → (get_or xs 0 0 ≡ 239 → get_or xs 1 0 ≡ 187 → get_or xs 2 0 ≡ 191 → ⊥) → xs ≡ strip_bom xs
unfolding strip_bom
unmarked [] h = refl
unmarked (x ∷ []) h = refl
unmarked (x ∷ y ∷ []) h = refl
unmarked (x ∷ y ∷ z ∷ xs) h = rw (no_bom x y z h) refl

-- Lawful names are texts, not blank, and each means its own place: none of those before it has it.
use Rattle.std.proofs.Common.{◌≡◌, ℕ, zero, suc, ◌+◌, ◌<◌, Bool, true, false, cond, List, [], ◌∷◌, ◌++◌, length, Option, Some, None, Ok, Err, is_ok, is_some, bytes_eq, refl, sym, ap, ◌∙◌, inl, inr, append_assoc, length-append, add-zero, zero-add, arith}
use Rattle.std.proofs.lemmas.Bool.{cases_Bool}
use Rattle.std.proofs.lemmas.Slice.Eq.{bytes_eq-Decides}
use Rattle.survey.specs.Checks.{then}
use Rattle.survey.specs.PassedChecks.{then_passed}
use Rattle.survey_text.proofs.NumberBack.{both}
use Rattle.survey_text.specs.declared.trouble.Cause.{Cause}
use Rattle.survey_text.specs.declared.trouble.Column.{Column}
use Rattle.survey_text.specs.Fields.{field, is_blank, text_check}
use Rattle.survey_text.specs.Names.{place_named, end_of, name_check, name_of, are_names}

pub bytes_same : (w : List ℕ) → bytes_eq w w ≡ true
bytes_same w = (bytes_eq-Decides w w).1 refl

-- a word that none of the first names is, is sought among the others
named_behind : (before : List (List ℕ)) (k : ℕ) (w : List ℕ) (xs : List (List ℕ)) → place_named k before w ≡ None → place_named k (before ++ xs) w ≡ place_named (k + length before) xs w
named_behind [] k w xs h = rw add-zero refl
named_behind (b ∷ before) k w xs h = elim (cases_Bool (bytes_eq b w)) [
  | inl same ↦ absurd (cc (rw same at h))
  | inr other ↦
      let e = named_behind before (suc k) w xs (rw other at h) in
      let count : suc k + length before ≡ k + suc (length before) = omega arith in
      rw other (e ∙ ap (λ n. place_named n xs w) count)
]

-- what a name has passed
pub record Passed (names : List (List ℕ)) (name : List ℕ) : Type 0 where
  pub text : text_check name ≡ Ok tt
  pub check : name_check names name ≡ Ok tt
  pub some : is_blank name ≡ false
  pub free : place_named 0 names name ≡ None

no_error : (a b c : Bool) (x y z : Cause) → is_ok {E = Cause} (cond a (Err x) (cond b (Err y) (cond c (Err z) (Ok (tt {0}))))) ≡ true → (a ≡ false) × (b ≡ false)
no_error true b c x y z h = absurd (cc h)
no_error false true c x y z h = absurd (cc h)
no_error false false c x y z h = (refl, refl)

no_place : (o : Option ℕ) → is_some o ≡ false → o ≡ None
no_place None h = refl
no_place (Some i) h = absurd (cc h)

pub name_passed : (names : List (List ℕ)) (name : List ℕ) → is_ok (name_of names name) ≡ true → Passed names name
name_passed names name h =
    let text = then_passed (text_check name) (λ _. then (name_check names name) (λ _. Ok name)) h in
    let check = then_passed (name_check names name) (λ _. Ok name) text.2 in
    let good : is_ok (name_check names name) ≡ true = ap is_ok check.1 in
    let parts = no_error _ _ _ _ _ _ good in
    record { text = text.1; check = check.1; some = parts.0; free = no_place (place_named 0 names name) parts.1 }

-- a name that means the place with a number
pub record Means (names : List (List ℕ)) (i : ℕ) (name : List ℕ) : Type 0 where
  pub text : text_check name ≡ Ok tt
  pub some : is_blank name ≡ false
  pub place : place_named 0 names name ≡ Some i

means_by : (names names2 : List (List ℕ)) (i j : ℕ) (name : List ℕ) → names ≡ names2 → i ≡ j → Means names i name → Means names2 j name
means_by names names2 i j name same count m =
    record { text = m.text; some = m.some; place = ap (λ ns. place_named 0 ns name) (sym same) ∙ m.place ∙ ap Some count }

each_means : (before names : List (List ℕ)) (i : ℕ) → are_names before names ≡ true → i < length names → Means (before ++ names) (length before + i) (field names i)
each_means before [] i h few = absurd (omega arith)
each_means before (n ∷ names) zero h few =
    let passed = name_passed before n (both (is_ok (name_of before n)) (are_names (before ++ n ∷ []) names) h).0 in
    let count : 0 + length before ≡ length before + 0 = omega arith in
    let first : place_named (0 + length before) (n ∷ names) n ≡ Some (0 + length before) = rw (bytes_same n) refl in
    record { text = passed.text; some = passed.some; place = named_behind before 0 n (n ∷ names) passed.free ∙ first ∙ ap Some count }
each_means before (n ∷ names) (suc i) h few =
    let later = (both (is_ok (name_of before n)) (are_names (before ++ n ∷ []) names) h).1 in
    let count : length (before ++ n ∷ []) + i ≡ length before + suc i = omega (arith, length-append before (n ∷ [])) in
    means_by ((before ++ n ∷ []) ++ names) (before ++ n ∷ names) _ _ (field names i) (append_assoc before (n ∷ []) names) count
    (each_means (before ++ n ∷ []) names i later (omega arith))

-- each of lawful names means its own place
pub name_means : (names : List (List ℕ)) (i : ℕ) → are_names [] names ≡ true → i < length names → Means names i (field names i)
name_means names i h few = means_by names names (0 + i) i (field names i) refl (zero-add i) (each_means [] names i h few)

pub end_back : (column : Column) (names : List (List ℕ)) (i : ℕ) → are_names [] names ≡ true → i < length names → end_of column names (field names i) ≡ Ok i
end_back column names i h few =
    let m = name_means names i h few in
    rw (m.some, m.place) refl

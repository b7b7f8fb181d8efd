-- The numbers of places are lawful names of them: each is its own number, and no two are the same.
use Rattle.std.proofs.Common.{◌≡◌, ℕ, zero, suc, ◌+◌, ◌^◌, ◌<◌, ◌≤◌, true, false, ◌==◌, [], ◌∷◌, ◌++◌, length, None, is_ok, bytes_eq, decimal, refl, sym, ap, ◌∙◌, inl, inr, zero-add, add-zero, arith}
use Rattle.std.proofs.lemmas.Bool.{cases_Bool}
use Rattle.std.proofs.lemmas.Bool.Decides.{nat_tests}
use Rattle.std.proofs.lemmas.Fmt.{decimal_is_IsNumeral, decimal_injective}
use Rattle.std.proofs.lemmas.Slice.Eq.{bytes_eq-Decides}
use Rattle.survey_text.specs.Names.{place_named, name_of, are_names, number_names, lawful_names}
use Rattle.survey_text.proofs.NumberBack.{decimal_text, decimal_some, decimal_digits}

numbers_long : (i n : ℕ) → length (number_names i n) ≡ n
numbers_long i zero = refl
numbers_long i (suc n) = ap suc (numbers_long (suc i) n)

numbers_last : (i n : ℕ) → number_names i n ++ decimal (i + n) ∷ [] ≡ number_names i (suc n)
numbers_last i zero = ap (λ k. decimal k ∷ []) (add-zero i)
numbers_last i (suc n) =
    let count : i + suc n ≡ suc i + n = omega arith in
    ap (λ names. decimal i ∷ names) (ap (λ k. number_names (suc i) n ++ decimal k ∷ []) count ∙ numbers_last (suc i) n)

-- a number is none of the smaller ones
other_number : (i m : ℕ) → i < m → m < 2 ^ 64 → bytes_eq (decimal i) (decimal m) ≡ false
other_number i m less small = elim (cases_Bool (bytes_eq (decimal i) (decimal m))) [
  | inl same ↦
      let equal = decimal_injective i m (omega arith) small ((bytes_eq-Decides (decimal i) (decimal m)).0 same) in
      absurd (omega arith)
  | inr other ↦ other
]

not_named : (k i n m : ℕ) → i + n ≤ m → m < 2 ^ 64 → place_named k (number_names i n) (decimal m) ≡ None
not_named k i zero m few small = refl
not_named k i (suc n) m few small = rw (other_number i m (omega arith) small) (not_named (suc k) (suc i) n m (omega arith) small)

same_number : (m : ℕ) → (m == m) ≡ true
same_number m = grind (arith, nat_tests)

name_ok : (m : ℕ) → m < 2 ^ 64 → is_ok (name_of (number_names 0 m) (decimal m)) ≡ true
name_ok m small =
    let free = not_named 0 0 m m (omega arith) small in
    rw (decimal_text m small, decimal_some m small, free, decimal_digits m small, (decimal_is_IsNumeral m small).1, numbers_long 0 m, same_number m) refl

each_ok : (i n : ℕ) → i + n ≤ 2 ^ 64 → are_names (number_names 0 i) (number_names i n) ≡ true
each_ok i zero few = refl
each_ok i (suc n) few =
    let last : number_names 0 i ++ decimal i ∷ [] ≡ number_names 0 (suc i) = ap (λ k. number_names 0 i ++ decimal k ∷ []) (sym (zero-add i)) ∙ numbers_last 0 i in
    rw (name_ok i (omega arith), last) (each_ok (suc i) n (omega arith))

pub numbers_lawful : (n : ℕ) → n ≤ 2 ^ 64 → lawful_names n (number_names 0 n) ≡ true
numbers_lawful n few = rw (numbers_long 0 n, same_number n) (each_ok 0 n (omega arith))

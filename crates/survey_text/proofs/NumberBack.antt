-- The digits of a number are a text with no control character, and read as that number.
use Rattle.std.proofs.Common.{◌≡◌, ℕ, ◌^◌, ◌<◌, ◌≤◌, Bool, true, false, ◌&&◌, List, [], ◌∷◌, length, Some, Ok, decimal, leb, ◌==◌, refl, arith}
use Rattle.std.specs.Char.{is_ascii_digit}
use Rattle.std.specs.List.{list_all, list_any}
use Rattle.std.specs.Str.Parse.{AllDigits}
use Rattle.std.proofs.lemmas.Bool.Decides.{nat_tests}
use Rattle.std.proofs.lemmas.Fmt.{decimal_is_IsNumeral, IsAscii-decimal}
use Rattle.std.proofs.lemmas.Str.{IsUtf8-from_ascii, is_utf8-from_IsUtf8}
use Rattle.std.proofs.lemmas.Str.Parse.{digit_from_value}
use Rattle.survey_text.specs.declared.trouble.Column.{Column}
use Rattle.survey_text.specs.Fields.{is_blank, is_control, text_check, number_of, repeater_of}

-- both tests of two pass
pub both : (a b : Bool) → (a && b) ≡ true → (a ≡ true) × (b ≡ true)
both true true h = (refl, refl)
both true false h = absurd (cc h)
both false b h = absurd (cc h)

digit_plain : (c : ℕ) → is_ascii_digit c ≡ true → is_control c ≡ false
digit_plain c h = grind (arith, nat_tests)

digits_plain : (ds : List ℕ) → list_all is_ascii_digit ds ≡ true → list_any is_control ds ≡ false
digits_plain [] h = refl
digits_plain (c ∷ cs) h =
    let k = both (is_ascii_digit c) (list_all is_ascii_digit cs) h in
    rw (digit_plain c k.0) (digits_plain cs k.1)

digit_test : (c : ℕ) → 48 ≤ c → c ≤ 57 → is_ascii_digit c ≡ true
digit_test c low high = grind (arith, nat_tests)

all_digits : (ds : List ℕ) → AllDigits 10 ds → list_all is_ascii_digit ds ≡ true
all_digits [] d = refl
all_digits (c ∷ cs) d =
    let k = digit_from_value c d.0 in
    rw (digit_test c k.0 k.1) (all_digits cs d.1)

some_bytes : (n : ℕ) → 0 < n → (n == 0) ≡ false
some_bytes n h = grind (arith, nat_tests)

no_more : (n most : ℕ) → n ≤ most → leb n most ≡ true
no_more n most h = grind (arith, nat_tests)

pub decimal_text : (n : ℕ) → n < 2 ^ 64 → text_check (decimal n) ≡ Ok tt
decimal_text n h =
    let utf8 = is_utf8-from_IsUtf8 (decimal n) (IsUtf8-from_ascii (decimal n) (IsAscii-decimal n h)) in
    let plain = digits_plain (decimal n) (all_digits (decimal n) (decimal_is_IsNumeral n h).0.1) in
    rw (utf8, plain) refl

pub decimal_some : (n : ℕ) → n < 2 ^ 64 → is_blank (decimal n) ≡ false
decimal_some n h = some_bytes (length (decimal n)) (decimal_is_IsNumeral n h).0.0

pub decimal_digits : (n : ℕ) → n < 2 ^ 64 → list_all is_ascii_digit (decimal n) ≡ true
decimal_digits n h = all_digits (decimal n) (decimal_is_IsNumeral n h).0.1

pub number_back : (column : Column) (most n : ℕ) → n ≤ most → n < 2 ^ 64 → number_of column most (decimal n) ≡ Ok n
number_back column most n few h =
    let numeral = decimal_is_IsNumeral n h in
    rw (decimal_some n h, decimal_digits n h, numeral.1, no_more n most few) refl

pub repeater_back : (column : Column) (n : ℕ) → n ≤ 4294967295 → repeater_of column (decimal n) ≡ Ok (Some n)
repeater_back column n few =
    let small : n < 2 ^ 64 = omega arith in
    let numeral = decimal_is_IsNumeral n small in
    rw (decimal_some n small, decimal_digits n small, numeral.1, no_more n 4294967295 few) refl

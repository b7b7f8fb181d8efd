-- Pieces laid one behind the other are one piece: what the second leaves of the first, and of the bytes around.
use Rattle.std.proofs.Common.{◌≡◌, ℕ, ◌+◌, ◌<◌, ◌≤◌, leb, List, [], ◌++◌, length, take, drop, Ok, Err, Result, sym, refl, ap, ◌∙◌, inl, inr, arith}
use Rattle.std.proofs.lemmas.List.{append_assoc, length-append, length-take-le, length-drop, take_at, drop_at, take_all, take-append-drop, drop-drop}
use Rattle.std.proofs.lemmas.Slice.{put_mid-paste}
use borrow.Rule.Slice.PartMut.{put_mid}
use Rattle.std.proofs.lemmas.Bool.{le-leb, lt-leb, cond-true, cond-false, cases_lt}
use Rattle.subject.specs.declared.refusal.Refusal.{Refusal}
use Rattle.subject.specs.declared.refusal.Refusal.TheVariants.{NoRoom}
use Rattle.survey_file.specs.Pieces.{put_answer, put_bytes}

pub put_answer-fits : (out : List ℕ) (at : ℕ) (xs : List ℕ) → at + length xs ≤ length out → put_answer out at xs ≡ Ok (at + length xs)
put_answer-fits out at xs h = cond-true (leb (at + length xs) (length out)) (Ok (at + length xs)) (Err NoRoom) (le-leb (at + length xs) (length out) h)

pub put_bytes-fits : (out : List ℕ) (at : ℕ) (xs : List ℕ) → at + length xs ≤ length out → put_bytes out at xs ≡ take at out ++ (xs ++ drop (at + length xs) out)
put_bytes-fits out at xs h = cond-true (leb (at + length xs) (length out)) (take at out ++ (xs ++ drop (at + length xs) out)) out (le-leb (at + length xs) (length out) h)

-- to lay a piece keeps how many bytes there are
pub length-put_bytes : (out : List ℕ) (at : ℕ) (xs : List ℕ) → at + length xs ≤ length out → length (put_bytes out at xs) ≡ length out
length-put_bytes out at xs h =
    let a = length-take-le at out (omega arith) in
    let b = length-drop (at + length xs) out in
    let c = length-append (take at out) (xs ++ drop (at + length xs) out) in
    let d = length-append xs (drop (at + length xs) out) in
    ap length (put_bytes-fits out at xs h) ∙ omega arith

-- nothing laid changes nothing
pub put_bytes-none : (out : List ℕ) (at : ℕ) → at ≤ length out → put_bytes out at [] ≡ out
put_bytes-none out at h =
    let same : at + 0 ≡ at = omega arith in
    put_bytes-fits out at [] (omega arith) ∙ ap (λ n. take at out ++ drop n out) same ∙ take-append-drop at out

-- one piece behind another
pub put_bytes-put_bytes : (out : List ℕ) (at next : ℕ) (xs ys : List ℕ) → next ≡ at + length xs → at + length (xs ++ ys) ≤ length out
    → put_bytes (put_bytes out at xs) next ys ≡ put_bytes out at (xs ++ ys)
put_bytes-put_bytes out at next xs ys n h =
    let long = length-append xs ys in
    let first_fits : at + length xs ≤ length out = omega arith in
    let o = put_bytes out at xs in
    let same_length = length-put_bytes out at xs first_fits in
    let front = length-take-le at out (omega arith) in
    let o_is : o ≡ (take at out ++ xs) ++ drop (at + length xs) out =
    put_bytes-fits out at xs first_fits ∙ sym (append_assoc (take at out) xs (drop (at + length xs) out)) in
    let front_long : length (take at out ++ xs) ≡ next = length-append (take at out) xs ∙ omega arith in
    let taken : take next o ≡ take at out ++ xs = ap (take next) o_is ∙ take_at (take at out ++ xs) (drop (at + length xs) out) next front_long in
    let together : at + length xs + length ys ≡ at + length (xs ++ ys) = omega arith in
    let left : drop (next + length ys) o ≡ drop (at + length (xs ++ ys)) out =
    sym (drop-drop (length ys) next o)
    ∙ ap (λ l. drop (length ys) (drop next l)) o_is
    ∙ ap (drop (length ys)) (drop_at (take at out ++ xs) (drop (at + length xs) out) next front_long)
    ∙ drop-drop (length ys) (at + length xs) out
    ∙ ap (λ m. drop m out) together in
    put_bytes-fits o next ys (omega arith)
    ∙ ap (λ f. f ++ (ys ++ drop (next + length ys) o)) taken
    ∙ ap (λ b. (take at out ++ xs) ++ (ys ++ b)) left
    ∙ append_assoc (take at out) xs (ys ++ drop (at + length (xs ++ ys)) out)
    ∙ ap (λ x. take at out ++ x) (sym (append_assoc xs ys (drop (at + length (xs ++ ys)) out)))
    ∙ sym (put_bytes-fits out at (xs ++ ys) h)

-- a write to the part from `at` on, as the checker tells it
pub written : (out xs last : List ℕ) (at k : ℕ) → at + length xs ≤ length out → last ≡ xs → k ≡ length xs → put_mid at k out last ≡ put_bytes out at xs
written out xs last at k h e n =
    put_mid-paste at k out last xs (length xs) e (sym n) refl
    ∙ ap (λ s. (take at out ++ s) ++ drop (at + length xs) out) (take_all (length xs) xs (omega arith))
    ∙ append_assoc (take at out) xs (drop (at + length xs) out)
    ∙ sym (put_bytes-fits out at xs h)

-- a piece that does not fit is refused, and changes nothing
pub put_answer-short : (out : List ℕ) (at : ℕ) (xs : List ℕ) → length out < at + length xs → put_answer out at xs ≡ Err NoRoom
put_answer-short out at xs h = cond-false (leb (at + length xs) (length out)) (Ok (at + length xs)) (Err NoRoom) (lt-leb (at + length xs) (length out) h)

pub put_bytes-short : (out : List ℕ) (at : ℕ) (xs : List ℕ) → length out < at + length xs → put_bytes out at xs ≡ out
put_bytes-short out at xs h = cond-false (leb (at + length xs) (length out)) (take at out ++ (xs ++ drop (at + length xs) out)) out (lt-leb (at + length xs) (length out) h)

-- a piece that was laid had room
pub put_answer-ok : (out : List ℕ) (at : ℕ) (xs : List ℕ) (n : ℕ) → Ok n ≡ put_answer out at xs → (at + length xs ≤ length out) × (n ≡ at + length xs)
put_answer-ok out at xs n h = elim (cases_lt (length out) (at + length xs)) [
  | inl short ↦ let z : ◌≡◌ {A = ℕ} 0 1 = no_room (h ∙ put_answer-short out at xs short) in absurd (omega arith)
  | inr fits ↦ (fits, same (h ∙ put_answer-fits out at xs fits))
]
  where
    no_room : {n : ℕ} → ◌≡◌ {A = Result ℕ Refusal} (Ok n) (Err NoRoom) → ◌≡◌ {A = ℕ} 0 1
    no_room e = cc

    same : {n m : ℕ} → ◌≡◌ {A = Result ℕ Refusal} (Ok n) (Ok m) → n ≡ m
    same e = cc

-- a piece that has room is not refused
pub not_refused : (out : List ℕ) (at : ℕ) (xs : List ℕ) (e : Refusal) → at + length xs ≤ length out → Err e ≡ put_answer out at xs → ⊥
not_refused out at xs e fits refused = let z : ◌≡◌ {A = ℕ} 0 1 = apart (refused ∙ put_answer-fits out at xs fits) in omega arith
  where
    apart : {n : ℕ} → ◌≡◌ {A = Result ℕ Refusal} (Err e) (Ok n) → ◌≡◌ {A = ℕ} 0 1
    apart h = cc

-- a text that stands at the front of the bytes, up to `at`
pub record Front (before text : List ℕ) (at : ℕ) (out : List ℕ) : Type 0 where
  pub next : at ≡ length text
  pub bytes : out ≡ put_bytes before 0 text

module _ (before xs ys : List ℕ) (at : ℕ) (out : List ℕ) (room : length (xs ++ ys) ≤ length before) (front : Front before xs at out) where
  pub front_fits : at + length ys ≤ length out
  front_fits =
      let long = length-append xs ys in
      let same = ap length front.bytes ∙ length-put_bytes before 0 xs (omega arith) in
      let here = front.next in
      omega arith

  pub front_more : (next : ℕ) (out' : List ℕ) → next ≡ at + length ys → out' ≡ put_bytes out at ys → Front before (xs ++ ys) next out'
  front_more next out' n is =
      let here = front.next in
      record {
        next = n ∙ ap (λ k. k + length ys) here ∙ sym (length-append xs ys);
        bytes = is ∙ ap (λ o. put_bytes o at ys) front.bytes ∙ put_bytes-put_bytes before 0 at xs ys (omega arith) (omega arith);
      }

-- the first piece of a text
pub front_first : (before xs ys : List ℕ) (at : ℕ) (out : List ℕ) → length (xs ++ ys) ≤ length before → Ok at ≡ put_answer before 0 xs → out ≡ put_bytes before 0 xs → Front before xs at out
front_first before xs ys at out room answered is =
    let long = length-append xs ys in
    let p = put_answer-ok before 0 xs at answered in
    record { next = p.1 ∙ omega arith; bytes = is }

-- with its last piece the whole text is laid
pub front_last : (before xs ys : List ℕ) (at : ℕ) (out : List ℕ) → length (xs ++ ys) ≤ length before → Front before xs at out
    → (put_answer out at ys ≡ put_answer before 0 (xs ++ ys)) × (put_bytes out at ys ≡ put_bytes before 0 (xs ++ ys))
front_last before xs ys at out room front =
    let fits = front_fits before xs ys at out room front in
    let more = front_more before xs ys at out room front (at + length ys) (put_bytes out at ys) refl refl in
    let same = more.next in
    (put_answer-fits out at ys fits ∙ ap Ok (same ∙ omega arith) ∙ sym (put_answer-fits before 0 (xs ++ ys) (omega arith)), more.bytes)

-- three pieces, one behind the other
pub parts_long : (xs ys zs : List ℕ) → length (xs ++ (ys ++ zs)) ≡ length xs + (length ys + length zs)
parts_long xs ys zs = length-append xs (ys ++ zs) ∙ ap (λ n. length xs + n) (length-append ys zs)

pub three_laid : (before xs ys zs : List ℕ) → length (xs ++ (ys ++ zs)) ≤ length before
    → (a b : ℕ) (o p : List ℕ) → Ok a ≡ put_answer before 0 xs → o ≡ put_bytes before 0 xs → ◌≡◌ {A = Result ℕ Refusal} (Ok b) (Ok (a + length ys)) → p ≡ put_bytes o a ys
    → (put_answer p b zs ≡ put_answer before 0 (xs ++ (ys ++ zs))) × (put_bytes p b zs ≡ put_bytes before 0 (xs ++ (ys ++ zs)))
three_laid before xs ys zs room a b o p first first-is second second_is =
    let whole = append_assoc xs ys zs in
    let long = parts_long xs ys zs in
    let two = length-append xs ys in
    let all = ap length whole in
    let f = front_first before xs ys a o (omega arith) first first-is in
    let b-is : b ≡ a + length ys = cc in
    let g = front_more before xs ys a o (omega arith) f b p b-is second_is in
    let h = front_last before (xs ++ ys) zs b p (omega arith) g in
    (h.0 ∙ ap (put_answer before 0) whole, h.1 ∙ ap (put_bytes before 0) whole)

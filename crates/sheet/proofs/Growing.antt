-- A line grows by a piece that has room: the text, and then the piece. A number of 64 bits has at most twenty digits.
use Rattle.std.proofs.Common.{◌≡◌, ℕ, ◌+◌, ◌^◌, ◌<◌, ◌≤◌, leb, List, [], ◌∷◌, ◌++◌, length, decimal, refl, ap, ◌∙◌, arith}
use Rattle.std.proofs.lemmas.List.{append_assoc, length-append}
use Rattle.std.proofs.lemmas.Fmt.{length-decimal-le}
use Rattle.std.proofs.lemmas.Bool.{le-leb, cond-true}
use Rattle.sheet.specs.Lines.{text_and}
use Rattle.sheet.specs.Refused.{number_then}

text_and-fits : (text piece : List ℕ) → length text + length piece ≤ 128 → text_and text piece ≡ text ++ piece
text_and-fits text piece h =
    let n = length text + length piece in
    cond-true (leb n 128) (text ++ piece) text (le-leb n 128 h)

-- a line is a text, which has at most so many bytes
pub record IsSaid (line text : List ℕ) (most : ℕ) : Type 0 where
  pub is : line ≡ text
  pub short : length text ≤ most

pub said-none : (line : List ℕ) → line ≡ [] → IsSaid line [] 0
said-none line e = record { is = e; short = omega arith }

module _ (line line' text : List ℕ) (most : ℕ) (said : IsSaid line text most) where
  -- it grows by a piece of at most n bytes
  pub said-piece : (piece : List ℕ) (n : ℕ) → line' ≡ text_and line piece → length piece ≤ n → most + n ≤ 128
      → IsSaid line' (text ++ piece) (most + n)
  said-piece piece n e few room =
      let long = length-append text piece in
      let fits = text_and-fits text piece (omega (arith, said.short)) in
      record { is = e ∙ ap (λ x. text_and x piece) said.is ∙ fits; short = omega (arith, said.short, long) }

  -- it grows by the digits of a number
  pub said-number : (n : ℕ) → n < 2 ^ 64 → line' ≡ text_and line (decimal n) → most + 20 ≤ 128
      → IsSaid line' (text ++ decimal n) (most + 20)
  said-number n small e room =
      said-piece (decimal n) 20 e (length-decimal-le 20 n (omega arith) (omega arith) small) room

-- it grows by the digits of a number and a byte behind them
pub said-number_then : (line line' text : List ℕ) (most : ℕ) → IsSaid line text most → (n behind : ℕ) → n < 2 ^ 64
    → line' ≡ text_and (text_and line (decimal n)) (behind ∷ []) → most + 21 ≤ 128
    → IsSaid line' (text ++ number_then n behind) (most + 21)
said-number_then line line' text most said n behind small e room =
    let digits = said-number line (text_and line (decimal n)) text most said n small refl (omega arith) in
    let all =
    said-piece _ line' (text ++ decimal n) (most + 20) digits (behind ∷ []) 1 e (omega arith) (omega arith) in
    let whole = append_assoc text (decimal n) (behind ∷ []) in
    let long = ap length whole in
    record { is = all.is ∙ whole; short = omega (arith, all.short, long) }

-- The loss card: what a cable loses, in tenths of a decibel, by its letter and its metres. Stands on the refusals.
use Rattle.std.specs.Prelude.{◌≡◌, ℕ, ◌+◌, ◌*◌, ◌/◌, ◌≤◌, cond, Ok, Err, Result, ◌==◌, nat_le}
use Rattle.subject.specs.declared.refusal.Refusal.{Refusal}
use Rattle.subject.specs.declared.refusal.Refusal.TheVariants.{WrongLetter, TooLong}
use Rattle.survey.specs.declared.card.TheConstants.{MOST_METRES, U_LOSS, S_LOSS, F_LOSS}

-- the row of a letter: U (85) is row 0, S (83) row 1, F (70) row 2
abbrev pub row_of : ℕ → Result ℕ Refusal
row_of letter =
    cond (letter == 85) (Ok 0)
    (cond (letter == 83) (Ok 1)
    (cond (letter == 70) (Ok 2) (Err WrongLetter)))

-- what the cable of a row loses per 100 metres
abbrev pub loss_per_100_metres : ℕ → ℕ
loss_per_100_metres row = cond (row == 0) U_LOSS (cond (row == 1) S_LOSS F_LOSS)

-- a hundredth, rounded up
abbrev pub hundredth : ℕ → ℕ
hundredth p = (p + 99) / 100

-- what a row says of some metres
abbrev pub entry_of : Result ℕ Refusal → ℕ → Result ℕ Refusal
entry_of (Ok row) metres =
    cond (nat_le metres MOST_METRES) (Ok (hundredth (metres * loss_per_100_metres row))) (Err TooLong)
entry_of (Err e) metres = Err e

-- what the card says of a letter and metres
abbrev pub loss_of : ℕ → ℕ → Result ℕ Refusal
loss_of letter metres = entry_of (row_of letter) metres

-- n is the smallest number with 100 × n at least p
abbrev pub IsSmallest : ℕ → ℕ → Type 0
IsSmallest p n = (p ≤ 100 * n) × ((k : ℕ) → p ≤ 100 * k → n ≤ k)

-- n is the smallest number of tenths that covers what so many metres of the cable lose
abbrev pub IsLossOf : ℕ → ℕ → ℕ → Type 0
IsLossOf letter metres n = (row : ℕ) → row_of letter ≡ Ok row → IsSmallest (metres * loss_per_100_metres row) n

-- A piece laid into bytes at a place: the place behind it, or a refusal where it does not fit; and the bytes then.
-- Stands on the refusals.
use Rattle.std.specs.Prelude.{ℕ, ◌+◌, cond, List, ◌++◌, length, take, drop, Ok, Err, Result, nat_le}
use Rattle.subject.specs.declared.refusal.Refusal.{Refusal}
use Rattle.subject.specs.declared.refusal.Refusal.TheVariants.{NoRoom}

-- what is answered
abbrev pub put_answer : List ℕ → ℕ → List ℕ → Result ℕ Refusal
put_answer out at piece =
    cond (nat_le (at + length piece) (length out)) (Ok (at + length piece)) (Err NoRoom)

-- what the bytes are then: those before and behind the piece stay, and all stay where it does not fit
abbrev pub put_bytes : List ℕ → ℕ → List ℕ → List ℕ
put_bytes out at piece =
    cond (nat_le (at + length piece) (length out)) (take at out ++ (piece ++ drop (at + length piece) out)) out

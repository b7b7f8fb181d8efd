-- The closing book: a set of way numbers, told only the arguments of the calls on a job and the number of ways of the site
-- below it. It is empty at set-up. Closing enters a way, reopening strikes one out; a refused call and every plan leave it as
-- it was. Stands on nothing but the calls and the refusals.
use Rattle.std.specs.Prelude.{ℕ, Bool, true, false, cond, List, [], ◌∷◌, Ok, Err, Result, ◌==◌, nat_lt}
use Rattle.subject.specs.declared.refusal.Refusal.{Refusal}
use Rattle.subject.specs.declared.refusal.Refusal.TheVariants.{NoSuchWay, AlreadyClosed, NotClosed}
use Rattle.job.specs.declared.list.Call.{Call}
use Rattle.job.specs.declared.list.Call.TheVariants.{Close, Reopen, Plan}

-- no way stands in the book
abbrev pub empty_book : ℕ → Bool
empty_book n = false

-- the book with the way w entered, or struck out, and every other way as before
abbrev pub with_way : (ℕ → Bool) → ℕ → Bool → ℕ → Bool
with_way book w stands n = cond (n == w) stands (book n)

-- what closing the way w gives: there is no such way, or it stands in the book already, or it is accepted
abbrev pub closing : ℕ → (ℕ → Bool) → ℕ → Result (Unit {0}) Refusal
closing ways book w = cond (nat_lt w ways) (cond (book w) (Err AlreadyClosed) (Ok tt)) (Err NoSuchWay)

-- what reopening the way w gives: there is no such way, or it does not stand in the book, or it is accepted
abbrev pub reopening : ℕ → (ℕ → Bool) → ℕ → Result (Unit {0}) Refusal
reopening ways book w = cond (nat_lt w ways) (cond (book w) (Ok tt) (Err NotClosed)) (Err NoSuchWay)

-- the book after a closing, and after a reopening: an accepted one enters the way or strikes it out
abbrev pub after_closing : ℕ → (ℕ → Bool) → ℕ → ℕ → Bool
after_closing ways book w n = cond (nat_lt w ways) (cond (book w) (book n) (with_way book w true n)) (book n)

abbrev pub after_reopening : ℕ → (ℕ → Bool) → ℕ → ℕ → Bool
after_reopening ways book w n = cond (nat_lt w ways) (cond (book w) (with_way book w false n) (book n)) (book n)

-- the book after one call
abbrev pub after_call : ℕ → (ℕ → Bool) → Call → ℕ → Bool
after_call ways book (Close w) = after_closing ways book w
after_call ways book (Reopen w) = after_reopening ways book w
after_call ways book (Plan q) = book

-- the book after a list of calls, one by one
abbrev pub after_calls : ℕ → (ℕ → Bool) → List Call → ℕ → Bool
after_calls ways book [] = book
after_calls ways book (c ∷ cs) = after_calls ways (after_call ways book c) cs

-- the book for a list of calls on a new job
abbrev pub book_for : ℕ → List Call → ℕ → Bool
book_for ways calls = after_calls ways empty_book calls

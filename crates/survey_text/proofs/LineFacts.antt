-- What stands behind the line ends or the first line of a text is no longer than the text, and there are no more line ends than bytes.
use Rattle.std.proofs.Common.{ℕ, ◌≤◌, Bool, true, false, cond, not, ◌&&◌, ◌||◌, ◌==◌, List, [], ◌∷◌, length, arith}
use Rattle.survey_text.specs.Lines.{is_break, begins_with_feed, line_ends, past_breaks}
use Rattle.survey_text.specs.Filled.{past_line}

by_test : (b : Bool) (xs ys zs : List ℕ) (n : ℕ) → length xs ≤ n → length ys ≤ n → length (cond b xs ys) ≤ n
by_test true xs ys zs n h k = h
by_test false xs ys zs n h k = k

pub breaks_shorter : (bs : List ℕ) → length (past_breaks bs) ≤ length bs
breaks_shorter [] = omega arith
breaks_shorter (b ∷ bs) =
    let less = breaks_shorter bs in
    by_test (is_break b) (past_breaks bs) (b ∷ bs) [] (length (b ∷ bs)) (omega arith) (omega arith)

pub line_shorter : (bs : List ℕ) → length (past_line bs) ≤ length bs
line_shorter [] = omega arith
line_shorter (b ∷ bs) =
    let less = line_shorter bs in
    by_test (is_break b) (b ∷ bs) (past_line bs) [] (length (b ∷ bs)) (omega arith) (omega arith)

one_by_test : (b : Bool) → cond b 1 0 ≤ 1
one_by_test true = omega arith
one_by_test false = omega arith

pub few_ends : (bs : List ℕ) → line_ends bs ≤ length bs
few_ends [] = omega arith
few_ends (b ∷ bs) =
    let more = few_ends bs in
    omega (arith, one_by_test ((b == 10) || ((b == 13) && not (begins_with_feed bs))))

-- One more line with its answer, behind lines with theirs: by induction along both.
use Rattle.std.proofs.Common.{◌≡◌, ℕ, ◌+◌, ◌<◌, List, [], ◌∷◌, ◌++◌, Option, length, take, get_or, refl, subst, ◌∙◌}
use Rattle.std.proofs.lemmas.List.{take_more}
use Rattle.subject.specs.declared.money.Money.{Money}
use Rattle.subject.specs.declared.queue.PriorityQueue.{Ghosts as QueueGhosts}
use Rattle.queue_cases.specs.declared.call.Line.{Line}
use Rattle.queue_cases.specs.declared.answer.Answer.{Answer}
use Rattle.queue_cases.specs.Answers.{Waits, IsLineAnswer, HasAnswered, AreAnswers, HasPlayed}

one_more : (n : ℕ) (a b c : Waits) (lines : List Line) (answers : List (Option Answer)) (line : Line) (answer : Option Answer)
    → AreAnswers n a b lines answers → IsLineAnswer n b c line answer → AreAnswers n a c (lines ++ line ∷ []) (answers ++ answer ∷ [])
one_more n a b c [] [] line answer p q = (c, subst (λ (w : Waits). IsLineAnswer n w c line answer) p q, refl)
one_more n a b c (l ∷ lines) (r ∷ answers) line answer p q = (p.0, p.1, one_more n p.0 b c lines answers line answer p.2 q)
one_more n a b c [] (r ∷ answers) line answer p q = absurd p
one_more n a b c (l ∷ lines) [] line answer p q = absurd p

-- the line at `i`, behind the lines before it
pub next : (n m : ℕ) (a b c : Waits) (lines : List Line) (i : ℕ) (d : Line) (answers : List (Option Answer)) (answer : Option Answer) → i < length lines
    → m ≡ n → AreAnswers n a b (take i lines) answers → IsLineAnswer m b c (get_or lines i d) answer → AreAnswers n a c (take (i + 1) lines) (answers ++ answer ∷ [])
next n m a b c lines i d answers answer h e p q =
    rw (take_more lines i d h) (one_more n a b c (take i lines) answers (get_or lines i d) answer p (rw (← e) q))

-- one line more
pub played_more : {Q : Type 0} (q : QueueGhosts Q Money) (x y z : Q) (lines : List Line) (i : ℕ) (d : Line) (r : Option Answer) → i < length lines
    → HasPlayed q (take i lines) x y → HasAnswered q (get_or lines i d) y z r → HasPlayed q (take (i + 1) lines) x z
played_more q x y z lines i d r h p a =
    record {
      rows = a.rows ∙ p.rows;
      answers = (p.answers.0 ++ r ∷ [], next _ _ _ _ _ lines i d p.answers.0 r h p.rows p.answers.1 a.answer);
    }

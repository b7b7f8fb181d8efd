-- One more queue that has answered a line, behind those before it.
use Rattle.std.proofs.Common.{◌≡◌, ℕ, ◌+◌, ◌<◌, ◌≢◌, List, Option, length, get_or, set, arith, below_more, get_or-set_same, get_or-set_other}
use Rattle.std.proofs.lemmas.List.Elements.{at_read}
use Rattle.subject.specs.declared.money.Money.{Money}
use Rattle.subject.specs.declared.queue.PriorityQueue.{Ghosts as QueueGhosts}
use Rattle.queue_cases.specs.declared.call.Line.{Line}
use Rattle.queue_cases.specs.declared.answer.Answer.{Answer}
use Rattle.queue_cases.specs.Answers.{HasAnswered}

module _ {Q : Type 0} (q : QueueGhosts Q Money) (line : Line) (before : List Q) where
  -- each queue before `i` has answered
  abbrev pub AnsweredBelow : List Q → List (Option Answer) → ℕ → Type 0
  AnsweredBelow after answers i =
      (k : ℕ) (d : Q) (r : Option Answer) → k < i → HasAnswered q line (get_or before k d) (get_or after k d) (get_or answers k r)

  pub one_more_asked : (after : List Q) (answers : List (Option Answer)) (i : ℕ) (x y : Q) (r : Option Answer) → i < length before → i < length after
      → i < length answers → x ≡ get_or before i x → AnsweredBelow after answers i → HasAnswered q line x y r
      → AnsweredBelow (set after i y) (set answers i r) (i + 1)
  one_more_asked after answers i x y r in_before in_after in_answers e all here k d s h =
      let P : ℕ → Type 0 = λ m. (d : Q) (s : Option Answer) → HasAnswered q line (get_or before m d) (get_or (set after i y) m d) (get_or (set answers i r) m s) in
      below_more P i
      (λ m l d s. let ne : m ≢ i = omega arith in rw (get_or-set_other after i m y d ne, get_or-set_other answers i m r s ne) (all m d s l))
      (λ d s. rw (get_or-set_same after i y d in_after, get_or-set_same answers i r s in_answers) (at_read before (λ b. HasAnswered q line b y r) i x in_before e here d))
      k h d s

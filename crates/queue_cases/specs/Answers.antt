-- What an answer says of a call on a queue. Stands on what queue calls do.
use Rattle.std.specs.Prelude.{◌≡◌, ℕ, ◌<◌, ◌≤◌, ◌⊎◌, List, [], ◌∷◌, None, Some, Option, Ok, Err, length, slice_index_or}
use Rattle.subject.specs.declared.money.Money.{Money}
use Rattle.subject.specs.declared.queue.PriorityQueue.{Ghosts as QueueGhosts}
use Rattle.subject.specs.declared.refusal.Refusal.TheVariants.{NoSuchCell}
use Rattle.subject.specs.Moneys.{of_cents, amount, money_no_more}
use Rattle.subject.specs.Queues.{IsPut, IsTaken, NoneWaits}
use Rattle.queue_cases.specs.declared.call.Call.{Call}
use Rattle.queue_cases.specs.declared.call.Line.{Line}
use Rattle.queue_cases.specs.declared.call.Call.TheVariants.{Rows as ToRows, Put as ToPut}
use Rattle.queue_cases.specs.declared.call.Call.TheVariants.{Take as ToTake, Empty as ToEmpty}
use Rattle.queue_cases.specs.declared.answer.Answer.{Answer}
use Rattle.queue_cases.specs.declared.answer.Answer.TheVariants.{Rows as HasRows, Put as DidPut, Took, Emptied}

-- what waits, by cell number
abbrev pub Waits : Type 0
Waits = ℕ → Option Money

-- the same waits
abbrev pub SameWaits : Waits → Waits → Type 0
SameWaits before after = (k : ℕ) → after k ≡ before k

-- of `n` rows: a cell below waits then, and any other is refused
abbrev pub IsPutAnswer : ℕ → Waits → Waits → ℕ → Money → Answer → Type 0
IsPutAnswer n before after cell charge r =
    ((r ≡ DidPut (Ok tt)) × (cell < n) × IsPut before after cell charge)
    ⊎ ((r ≡ DidPut (Err NoSuchCell)) × (n ≤ cell) × SameWaits before after)

-- a lowest charge is taken, or none waits
abbrev pub IsTakeAnswer : Waits → Waits → Answer → Type 0
IsTakeAnswer before after r =
    ((cell : ℕ) × (charge : Money) × (r ≡ Took (Some (amount charge))) × IsTaken money_no_more before after cell charge)
    ⊎ ((r ≡ Took None) × NoneWaits before × SameWaits before after)

abbrev pub IsAnswerOf : ℕ → Waits → Waits → Call → Answer → Type 0
IsAnswerOf n before after (ToRows m) r = (r ≡ HasRows n) × SameWaits before after
IsAnswerOf n before after (ToPut cell cents) r = IsPutAnswer n before after cell (of_cents cents) r
IsAnswerOf n before after ToTake r = IsTakeAnswer before after r
IsAnswerOf n before after ToEmpty r = (r ≡ Emptied) × NoneWaits after

-- the answer of a queue to a call, given the queue before and after
abbrev pub IsAnswer : {Q : Type 0} → QueueGhosts Q Money → Q → Q → Call → Answer → Type 0
IsAnswer q before after call r = IsAnswerOf (q.rows before) (q.waits before) (q.waits after) call r

-- the answer where there may be a call, of a queue of `n` rows: none where there is none
abbrev pub IsAnswerIfAny : ℕ → Waits → Waits → Option Call → Option Answer → Type 0
IsAnswerIfAny n before after None None = after ≡ before
IsAnswerIfAny n before after (Some call) (Some answer) = IsAnswerOf n before after call answer
IsAnswerIfAny n before after _ _ = ⊥

pub record IsLineAnswer (n : ℕ) (before after : Waits) (line : Line) (r : Option Answer) : Type 0 where
  pub to_call : IsAnswerIfAny n before after line.call r

abbrev pub IsLineAnswerOn : {Q : Type 0} → QueueGhosts Q Money → Q → Q → Line → Option Answer → Type 0
IsLineAnswerOn q before after line r = IsLineAnswer (q.rows before) (q.waits before) (q.waits after) line r

-- a queue has answered a line
pub record HasAnswered {Q : Type 0} (q : QueueGhosts Q Money) (line : Line) (before after : Q) (r : Option Answer) : Type 0 where
  pub rows : q.rows after ≡ q.rows before
  pub answer : IsLineAnswerOn q before after line r

-- each of the queues has answered a line
abbrev pub HaveAnswered : {Q : Type 0} → QueueGhosts Q Money → Line → List Q → List Q → List (Option Answer) → Type 0
HaveAnswered {Q} q line before after answers =
    (k : ℕ) (d : Q) (r : Option Answer) → k < length before
    → HasAnswered q line (slice_index_or before k d) (slice_index_or after k d) (slice_index_or answers k r)

-- the answers to lines in turn, each where the lines before it left the queue
abbrev pub AreAnswers : ℕ → Waits → Waits → List Line → List (Option Answer) → Type 0
AreAnswers n before after [] [] = after ≡ before
AreAnswers n before after (line ∷ lines) (answer ∷ answers) =
    (between : Waits) × IsLineAnswer n before between line answer × AreAnswers n between after lines answers
AreAnswers n before after _ _ = ⊥

-- the answers of a queue of `n` rows, in which `before` waits at first
abbrev pub AreAnswersFrom : ℕ → Waits → List Line → List (Option Answer) → Type 0
AreAnswersFrom n before lines answers = (after : Waits) × AreAnswers n before after lines answers

abbrev pub AreAnswersOf : {Q : Type 0} → QueueGhosts Q Money → Q → List Line → List (Option Answer) → Type 0
AreAnswersOf q before lines answers = AreAnswersFrom (q.rows before) (q.waits before) lines answers

-- the answers of a queue of `n` rows in which no cell waits at first
abbrev pub AreNewAnswers : ℕ → List Line → List (Option Answer) → Type 0
AreNewAnswers n lines answers = (before : Waits) × NoneWaits before × AreAnswersFrom n before lines answers

-- a queue has answered the lines in turn
pub record HasPlayed {Q : Type 0} (q : QueueGhosts Q Money) (lines : List Line) (before after : Q) : Type 0 where
  pub rows : q.rows after ≡ q.rows before
  pub answers : (r : List (Option Answer)) × AreAnswers (q.rows before) (q.waits before) (q.waits after) lines r

-- each of the queues has answered the lines in turn
abbrev pub HavePlayed : {Q : Type 0} → QueueGhosts Q Money → List Line → List Q → List Q → Type 0
HavePlayed {Q} q lines before after =
    (k : ℕ) (d : Q) → k < length before → HasPlayed q lines (slice_index_or before k d) (slice_index_or after k d)

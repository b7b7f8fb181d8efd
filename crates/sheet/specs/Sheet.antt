-- The text of the sheet of a run: a first line, a line for each step, and a last line. Byte 10 ends a line, and single
-- spaces (byte 32) are between numbers. Stands on runs.
use Rattle.std.specs.Prelude.{ℕ, ◌+◌, Bool, cond, List, [], ◌∷◌, ◌++◌, Some, None, codes, Option}
use Rattle.subject.specs.declared.money.Money.{Money}
use Rattle.subject.specs.Moneys.{amount}
use Rattle.subject.specs.declared.way.Way.{Way}
use Rattle.subject.specs.declared.run.Step.{Step}
use Rattle.subject.specs.declared.run.Request.{Request}
use Rattle.subject.specs.Problems.{Problem}
use Rattle.subject.specs.Runs.{loss_behind, total}
use Rattle.sheet.specs.Refused.{number_then}

-- RUN, start, end and bound
abbrev pub run_line : Request → List ℕ
run_line q = codes "RUN " ++ (number_then q.start 32 ++ (number_then q.end 32 ++ number_then q.bound 10))

-- R where a repeater is marked, else -
abbrev pub mark_end : Bool → List ℕ
mark_end mark = cond mark (82 ∷ 10 ∷ []) (45 ∷ 10 ∷ [])

-- way, from, to, loss on arrival, and the mark
abbrev pub step_line : ℕ → ℕ → ℕ → ℕ → Bool → List ℕ
step_line way from to loss mark =
    number_then way 32 ++ (number_then from 32 ++ (number_then to 32 ++ (number_then loss 32 ++ mark_end mark)))

-- the line of a step that is made with the loss l so far
abbrev pub line_of : {C : Type 0} → ℕ → Step → Option (Way C) → List ℕ
line_of l s None = []
line_of l s (Some w) = step_line s.way w.from w.to (l + w.loss) s.mark

-- the lines of the steps that lead on with the loss l so far
abbrev pub step_lines : {C : Type 0} → Problem C → ℕ → List Step → List ℕ
step_lines P l [] = []
step_lines P l (s ∷ rest) =
    line_of l s (P.site.way s.way) ++ step_lines P (loss_behind (P.site.way s.way) s.mark l) rest

-- TOTAL and the cents
abbrev pub total_line : Money → List ℕ
total_line c = codes "TOTAL " ++ number_then (amount c) 10

-- the whole sheet of a run for money
abbrev pub sheet_text : Problem Money → List Step → List ℕ
sheet_text P steps = run_line P.request ++ (step_lines P 0 steps ++ total_line (total P steps))

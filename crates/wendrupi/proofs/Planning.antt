-- A plan with as many rows as it needs comes to a least run; or it is refused for what speaks against the request by itself, or
-- since no run is lawful: there are rows for its bound, if that is one that can be asked for.
use Rattle.std.proofs.Common.{◌≡◌, ℕ, ◌+◌, ◌*◌, ◌≤◌, List, length, take, replicate, min, inl, inr, sym, ap, ◌∙◌, subst, Ok, Err, Result, arith}
use Rattle.std.specs.Prelude.{MatchResult, vec_items}
use Rattle.std.proofs.lemmas.List.{length-replicate}
use Rattle.subject.specs.declared.queue.PriorityQueue.{Ghosts as QueueGhosts}
use Rattle.subject.specs.declared.refusal.Refusal.{Refusal}
use Rattle.subject.specs.declared.run.Request.{Request}
use Rattle.subject.specs.declared.run.TheConstants.{MOST_BOUND}
use Rattle.subject.specs.Problems.{Problem}
use Rattle.subject.specs.Runs.{IsLeast}
use Rattle.search.specs.declared.check.RowCounts.{RowCounts}
use Rattle.search.specs.Checks.{needed_rows, ChecksPass, RequestPasses, RowsSuffice}
use Rattle.search.specs.Memories.{LentMemory, counts_of}
use Rattle.planner.specs.declared.plan.Planned.{Planned}
use Rattle.planner.specs.Outcome.{PlanOutcome}
use Rattle.answers.specs.Plans.{rows_each}
use Rattle.answers.proofs.Causes.{cause_by_itself}
use Rattle.wendrupi.specs.declared.plan.Run.{Run}
use Rattle.wendrupi.specs.Runs.{row_count, RunFound, RunRefused}

same_counts : (n cells queue run : ℕ) → cells ≡ n → queue ≡ n → run ≡ n
    → ◌≡◌ {A = RowCounts} (record { cells = cells; queue = queue; run = run }) (rows_each n)
same_counts n cells queue run a b d = cc

-- so many rows of each sort, where the cell rows and the run rows are filled
pub owned_counts : {A B : Type 0} (n : ℕ) (cells : List A) (queue : ℕ) (run : List B) (a : A) (b : B)
    → cells ≡ replicate n a → queue ≡ n → run ≡ replicate n b
    → ◌≡◌ {A = RowCounts} (record { cells = length cells; queue = queue; run = length run }) (rows_each n)
owned_counts n cells queue run a b filled same blank =
    same_counts n (length cells) queue (length run)
    (ap length filled ∙ length-replicate n a) same (ap length blank ∙ length-replicate n b)

request_passes : (places : ℕ) (q : Request) (counts : RowCounts) → ChecksPass places q counts → RequestPasses places q
request_passes places q counts p = record { places_exist = p.places_exist; bound_in_range = p.bound_in_range }

enough_rows : (places : ℕ) (q : Request) → q.bound ≤ MOST_BOUND
    → RowsSuffice (needed_rows places q) (rows_each (row_count places q.bound))
enough_rows places q low =
    let same : min q.bound MOST_BOUND ≡ q.bound = omega arith in
    let rows : row_count places q.bound ≡ needed_rows places q = ap (λ b. places * (b + 1)) same in
    record { of_cells = omega (arith, rows); of_queue = omega (arith, rows); of_run = omega (arith, rows) }

module _ {C Q : Type 0} (P : Problem C) (queue : QueueGhosts Q C) (h h' : LentMemory C Q) where
  -- what a plan comes to, where the steps of a run are in the first run rows
  abbrev pub Comes : Result (Planned C) Refusal → Type 0
  Comes r = MatchResult r
      (λ p. (run : Run C) → vec_items run.steps ≡ take p.steps h'.run → run.total ≡ p.total → RunFound P run)
      (RunRefused P)

  pub plan_comes : (n : ℕ) (r : Result (Planned C) Refusal) → n ≡ row_count P.site.places P.request.bound
      → counts_of queue h ≡ rows_each n → PlanOutcome P queue h h' r → Comes r
  plan_comes n (Ok p) rows counts o = λ run steps total. record {
    passes = request_passes P.site.places P.request (counts_of queue h) o.answer.0;
    least = subst (λ s. IsLeast P s run.total) (sym steps)
        (subst (λ t. IsLeast P (take p.steps h'.run) t) (sym total) o.answer.1.least);
  }
  plan_comes n (Err e) rows counts o =
      let places = P.site.places in
      let q = P.request in
      let enough : q.bound ≤ MOST_BOUND → RowsSuffice (needed_rows places q) (counts_of queue h) =
      λ low. subst (RowsSuffice (needed_rows places q)) (sym (counts ∙ ap rows_each rows)) (enough_rows places q low) in
      elim o.answer [
        | inl a ↦ inl (cause_by_itself places q (counts_of queue h) e enough a.0)
        | inr b ↦ inr (b.0, request_passes places q (counts_of queue h) b.1, b.2)
      ]

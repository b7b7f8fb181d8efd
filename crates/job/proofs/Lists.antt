-- Lists of calls: one more call at the end goes on from the book and from what the calls before it left; and the law of the plan
-- made next follows from what a plan promises, since no call changes how many rows there are.
use Rattle.std.proofs.Common.{◌≡◌, ℕ, ◌+◌, ◌<◌, Bool, List, [], ◌∷◌, ◌++◌, length, take, set, Some, Ok, Err, Result, sym, refl, ap, ◌∙◌, subst, inl, inr, add-one, take-suc-set}
use Rattle.std.proofs.lemmas.List.{map-append, set-get_or}
use Rattle.std.proofs.lemmas.Option.{get_or_from_slice_get}
use Rattle.std.specs.List.{slice_get}
use Rattle.subject.specs.declared.refusal.Refusal.{Refusal}
use Rattle.search.proofs.Stopping.{cause_fails}
use Rattle.search.specs.Memories.{LentMemory, counts_of}
use Rattle.planner.specs.Outcome.{PlanOutcome}
use Rattle.planner.specs.declared.plan.Planned.{Planned}
use Rattle.job.specs.declared.list.Call.{Call}
use Rattle.job.specs.declared.list.Call.TheVariants.{Close, Reopen, Plan}
use Rattle.job.specs.declared.list.Answer.{Answer}
use Rattle.job.specs.declared.list.Entry.{Entry}
use Rattle.job.specs.Book.{after_call, after_calls}
use Rattle.job.specs.Replay.{calls_of, CallOutcome, CallsOutcome, PlanLaw, state_after, state_after_all}
use Rattle.subject.specs.declared.queue.PriorityQueue.{Ghosts as QueueGhosts}
use Rattle.job.specs.Jobs.{JobState, with_book}
use Rattle.subject.specs.Problems.{Problem}
use Rattle.search.specs.declared.check.RowCounts.{RowCounts}
use mathlib.Core.Path.{fun_ext}

pub after_more : (ways : ℕ) (book : ℕ → Bool) (calls : List Call) (c : Call) → after_calls ways book (calls ++ c ∷ []) ≡ after_call ways (after_calls ways book calls) c
after_more ways book [] c = refl
after_more ways book (d ∷ calls) c = after_more ways (after_call ways book d) calls c

module _ {C Q : Type 0} (q : QueueGhosts Q C) where
  pub calls-append : (J : JobState C) (h mid h' : LentMemory C Q) (es : List (Entry C)) (e : Entry C)
      → CallsOutcome J q h mid es → CallOutcome (state_after_all J (calls_of es)) q mid h' e.call e.answer
      → counts_of q h' ≡ counts_of q mid → CallsOutcome J q h h' (es ++ e ∷ [])
  calls-append J h mid h' [] e t u same = (
    h',
    subst (λ (z : LentMemory C Q). CallOutcome J q z h' e.call e.answer) t u,
    same ∙ ap (counts_of q) t,
    refl,
  )
  calls-append J h mid h' (d ∷ es) e t u same =
      (t.0, t.1, t.2, calls-append (state_after J d.call) t.0 mid h' es e t.3 u same)

  -- the queue has as many rows after a call as before it
  pub rows_after_call : (J : JobState C) (h h' : LentMemory C Q) (c : Call) (a : Answer C) → CallOutcome J q h h' c a
      → q.rows h'.queue ≡ q.rows h.queue
  rows_after_call J h h' (Close w) a t = ap (λ (z : LentMemory C Q). q.rows z.queue) t.1
  rows_after_call J h h' (Reopen w) a t = ap (λ (z : LentMemory C Q). q.rows z.queue) t.1
  rows_after_call J h h' (Plan request) a t = t.2.rows

  -- there are as many rows of each sort after the listed calls as before them
  pub counts_after_calls : (J : JobState C) (h h' : LentMemory C Q) (es : List (Entry C)) → CallsOutcome J q h h' es
      → counts_of q h' ≡ counts_of q h
  counts_after_calls J h h' [] t = ap (counts_of q) t
  counts_after_calls J h h' (e ∷ es) t = counts_after_calls (state_after J e.call) t.0 h' es t.3 ∙ t.2

  -- the call at the place `at` is tried after those before it, and its entry is written
  pub tried_next : (J : JobState C) (h mid h' : LentMemory C Q) (es : List (Entry C)) (at : ℕ) (e : Entry C) (closed closed' : ℕ → Bool)
      → at < length es → closed ≡ after_calls J.below.ways J.book (calls_of (take at es)) → CallsOutcome J q h mid (take at es)
      → CallOutcome (with_book J closed) q mid h' e.call e.answer → ((n : ℕ) → closed' n ≡ after_call J.below.ways closed e.call n)
      → counts_of q h' ≡ counts_of q mid
      → (closed' ≡ after_calls J.below.ways J.book (calls_of (take (at + 1) (set es at e)))) × CallsOutcome J q h h' (take (at + 1) (set es at e))
  tried_next J h mid h' es at e closed closed' inside is t u marks same =
      let ways = J.below.ways in
      let more : take at es ++ e ∷ [] ≡ take (at + 1) (set es at e) = sym (rw add-one (take-suc-set es at e inside)) in
      let calls : calls_of (take at es ++ e ∷ []) ≡ calls_of (take at es) ++ e.call ∷ [] = map-append (λ (z : Entry C). z.call) (take at es) (e ∷ []) in (
        fun_ext marks
            ∙ ap (λ (b : ℕ → Bool). after_call ways b e.call) is
            ∙ sym (after_more ways J.book (calls_of (take at es)) e.call)
            ∙ ap (λ (cs : List Call). after_calls ways J.book cs) (sym calls)
            ∙ ap (λ (z : List (Entry C)). after_calls ways J.book (calls_of z)) more,
        subst (λ (z : List (Entry C)). CallsOutcome J q h h' z) more
            (calls-append J h mid h' (take at es) e t (subst (λ (b : ℕ → Bool). CallOutcome (with_book J b) q mid h' e.call e.answer) is u) same),
      )

-- writing what stands there already changes nothing
pub set_same : {X : Type 0} (xs : List X) (i : ℕ) (x : X) → slice_get xs i ≡ Some x → set xs i x ≡ xs
set_same xs i x e = ap (set xs i) (sym (get_or_from_slice_get xs i x x e)) ∙ set-get_or xs i x

module _ {C Q : Type 0} (P : Problem C) (q : QueueGhosts Q C) (before h' : LentMemory C Q) where
  -- the law, from the promise of the plan
  law_here : (r : Result (Planned C) Refusal) → PlanOutcome P q before h' r → PlanLaw P (counts_of q before) h'.run r
  law_here (Ok p) o = record { passing = λ _. o.answer.1.least; stopped = λ fails. fails o.answer.0 }
  law_here (Err e) o = record {
    passing = λ passes. elim o.answer [
      | inl a ↦ absurd (cause_fails P.site.places P.request (counts_of q before) e a.0 passes)
      | inr a ↦ (a.0, a.2)
    ];
    stopped = λ fails. elim o.answer [ inl a ↦ a.0 | inr a ↦ absurd (fails a.1) ];
  }

  pub law_holds : (counts : RowCounts) (r : Result (Planned C) Refusal) → counts_of q before ≡ counts → PlanOutcome P q before h' r
      → PlanLaw P counts h'.run r
  law_holds counts r e o = subst (λ (z : RowCounts). PlanLaw P z h'.run r) e (law_here r o)

-- the same numbers of rows are the same counts
pub counts_same : {C Q : Type 0} (q : QueueGhosts Q C) (h h' : LentMemory C Q) → length h'.cells ≡ length h.cells
    → q.rows h'.queue ≡ q.rows h.queue → length h'.run ≡ length h.run → counts_of q h' ≡ counts_of q h
counts_same q h h' a b c =
    ap (λ (n : ℕ). (let r : RowCounts = record { cells = n; queue = q.rows h'.queue; run = length h'.run } in r)) a
    ∙ ap (λ (n : ℕ). (let r : RowCounts = record { cells = length h.cells; queue = n; run = length h'.run } in r)) b
    ∙ ap (λ (n : ℕ). (let r : RowCounts = record { cells = length h.cells; queue = q.rows h.queue; run = n } in r)) c

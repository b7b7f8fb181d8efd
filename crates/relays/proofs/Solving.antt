-- A least run is an optimal path. It is feasible since it is lawful; it is so short that its value stays below
-- the ceiling, so its total is its value; and each feasible path is a lawful run, whose total is at most its
-- value. Shown once, over any set of shut ways: a plan over the survey has none, a plan at the end of a list of
-- calls those of the closing book.
use Rattle.std.proofs.Common.{◌≡◌, ℕ, ◌+◌, ◌*◌, ◌<◌, ◌≤◌, min, Bool, true, List, length, take, Ok, Err, Result, IfOk, refl, sym, ap, ◌∙◌, subst, inl, inr, mul-le-mul, arith}
use Rattle.std.proofs.lemmas.Bool.{leb-true}
use Rattle.std.proofs.lemmas.Result.{IfOk-weaker}
use Rattle.subject.specs.declared.money.TheConstants.{CEILING}
use Rattle.subject.specs.declared.money.Money.{Money}
use Rattle.subject.specs.declared.queue.PriorityQueue.{Ghosts as QueueGhosts}
use Rattle.subject.specs.declared.refusal.Refusal.{Refusal}
use Rattle.subject.specs.declared.run.TheConstants.{MOST_BOUND}
use Rattle.subject.specs.declared.run.Step.{Step}
use Rattle.subject.specs.declared.run.Request.{Request}
use Rattle.subject.specs.declared.site.TheConstants.{MOST_PLACES}
use Rattle.subject.specs.Moneys.{of_cents, amount, money_no_more}
use Rattle.subject.specs.Problems.{Problem}
use Rattle.subject.specs.Sites.{IsBounded}
use Rattle.subject.specs.Runs.{IsLeast, NoneTwice}
use Rattle.survey.specs.declared.sealed.Sealed.{Sealed}
use Rattle.survey.specs.Contents.{Contents}
use Rattle.survey.specs.Sealing.{sealed_contents}
use Rattle.survey.specs.SurveySite.{money_problem}
use Rattle.survey.specs.SiteBounds.{sealed_bounded}
use Rattle.search.specs.declared.check.RowCounts.{RowCounts}
use Rattle.search.specs.Checks.{BoundInRange}
use Rattle.search.specs.Memories.{LentMemory, counts_of}
use Rattle.search.specs.Owned.{owned_memory}
use Rattle.search.specs.declared.owned.OwnedRows.{OwnedRows}
use Rattle.search.proofs.Stopping.{cause_other}
use Rattle.planner.specs.declared.plan.Planned.{Planned}
use Rattle.planner.specs.Outcome.{PlanOutcome}
use Rattle.job.specs.declared.list.Entry.{Entry}
use Rattle.job.specs.Book.{empty_book}
use Rattle.job.specs.Bounds.{shutting_bounded}
use Rattle.job.specs.Replay.{PlanLaw, OwnedReplay, ReplayOutcome}
use Rattle.job.proofs.Lists.{law_holds}
use Rattle.relays.specs.Problem.{RelayProblem, all_open, value}
use Rattle.relays.specs.Answers.{IsSolution, IsAnswer}
use Rattle.relays.specs.MoneyJobs.{money_job, problem_after, new_job_problem}
use Rattle.relays.proofs.Lawful.{lawful_feasible, feasible_lawful, money_asked}
use Rattle.relays.proofs.Totals.{capped_money, total_capped}
use Rattle.relays.proofs.Few.{few_steps}
use Rattle.relays.proofs.Prices.{value_low}

-- of two sums below or at the ceiling the order is that of what they came from, where the first did not reach it
order_below : (a b : ℕ) → a < CEILING → money_no_more (of_cents a) (capped_money (0 + b)) ≡ true → a ≤ b
order_below a b low h = let order = leb-true (amount (of_cents a)) (amount (capped_money (0 + b))) h in omega arith

module _ (s : Sealed) (shut : ℕ → Bool) (q : Request) where
  abbrev R : RelayProblem
  R = record { contents = sealed_contents s; is_shut = shut; request = q }

  abbrev P : Problem Money
  P = money_asked R

  abbrev c : Contents
  c = sealed_contents s

  bounded : IsBounded P.site
  bounded = shutting_bounded _ shut (sealed_bounded (λ w. of_cents w.price) of_cents s)

  value_countable : (run : List Step) → BoundInRange q → length run ≤ length c.places * (q.bound + 1)
      → value c run < CEILING
  value_countable run range short =
      let low = value_low s run in
      let few = bounded.few_places in
      let most = range.most in
      let bound : q.bound + 1 ≤ MOST_BOUND + 1 = omega arith in
      let rows : length c.places * (q.bound + 1) ≤ MOST_PLACES * (MOST_BOUND + 1) = mul-le-mul few bound in
      omega arith

  least_solves : (run : List Step) (sum : Money) → BoundInRange q → IsLeast P run sum → NoneTwice P q.start 0 run
      → IsSolution R run sum
  least_solves run sum range least once =
      let short = few_steps P bounded run least.lawful once in
      let countable = value_countable run range short in
      let capped_total = total_capped R q.start 0 0 run (omega arith) least.lawful in
      let uncapped : min (0 + value c run) CEILING ≡ value c run = omega arith in
      let exact : sum ≡ of_cents (value c run) = least.comes_to ∙ capped_total ∙ ap of_cents uncapped in
      record {
        optimal = record {
          feasible = lawful_feasible R run least.lawful;
          cheapest = λ other f.
              let lawful = feasible_lawful R other f in
              let total = total_capped R q.start 0 0 other (omega arith) lawful in
              let order = ap (λ a. money_no_more a (capped_money (0 + value c other))) (sym exact)
              ∙ ap (money_no_more sum) (sym total)
              ∙ least.lowest other lawful in
              order_below (value c run) (value c other) countable order;
        };
        short = short;
        countable = countable;
        exact = exact;
      }

  -- a plan and its law are an answer to the problem
  pub law_answers : {Q : Type 0} (queue : QueueGhosts Q Money) (counts : RowCounts) (h h' : LentMemory Money Q)
      (r : Result (Planned Money) Refusal) → PlanLaw P counts h'.run r → PlanOutcome P queue h h' r → IsAnswer R counts h'.run r
  law_answers queue counts h h' (Ok p) law o =
      let answer = o.answer in
      least_solves (take p.steps h'.run) p.total answer.0.bound_in_range answer.1.least answer.1.once
  law_answers queue counts h h' (Err e) law o = record {
    none = λ is. elim o.answer [
      | inl a ↦ absurd (cause_other P.site.places q (counts_of queue h) e a.0 is)
      | inr a ↦ λ other f. a.2 other (feasible_lawful R other f)
    ];
    only = λ passes. (law.passing passes).0;
  }

-- a plan over a view that shows a sealed survey answers the problem with no way shut
pub plan_answers : {Q : Type 0} (s : Sealed) (q : Request) (queue : QueueGhosts Q Money) (h h' : LentMemory Money Q)
    (r : Result (Planned Money) Refusal) (shown : Contents) → shown ≡ sealed_contents s
    → PlanOutcome (money_problem shown q) queue h h' r
    → IsAnswer (all_open (sealed_contents s) q) (counts_of queue h) h'.run r
plan_answers s q queue h h' r shown same o =
    let P = money_problem (sealed_contents s) q in
    let here = subst (λ c. PlanOutcome (money_problem c q) queue h h' r) same o in
    let law = law_holds P queue h h' (counts_of queue h) r refl here in
    law_answers s _ q queue (counts_of queue h) h h' r law here

-- the plan at the end of a list of calls answers the problem with the ways of the closing book shut
pub replay_answers : {Q : Type 0} (s : Sealed) (book : ℕ → Bool) (q : Request) (queue : QueueGhosts Q Money)
    (es es' : List (Entry Money)) (h h' : LentMemory Money Q) (r : Result (Planned Money) Refusal) (shown : Contents)
    → shown ≡ sealed_contents s → ReplayOutcome (money_job shown book) queue q es es' h h' r
    → IsAnswer (problem_after (sealed_contents s) book es q) (counts_of queue h) h'.run r
replay_answers s book q queue es es' h h' r shown same o =
    let here = subst (λ c. ReplayOutcome (money_job c book) queue q es es' h h' r) same o in
    law_answers s _ q queue (counts_of queue h) here.before h' r here.law here.next

-- the same of a new job, where one could be set up: over rows that are lent, and over rows that a program owns
module _ {Q E : Type 0} (s : Sealed) (q : Request) (queue : QueueGhosts Q Money) (es es' : List (Entry Money))
    (r : Result (Result (Planned Money) Refusal) E) (shown : Contents) (same : shown ≡ sealed_contents s) where
  pub lent_answers : (h h' : LentMemory Money Q)
      → IfOk r (λ planned. ReplayOutcome (money_job shown empty_book) queue q es es' h h' planned)
      → IfOk r (λ planned. IsAnswer (new_job_problem s es q) (counts_of queue h) h'.run planned)
  lent_answers h h' o =
      IfOk-weaker r (λ planned. ReplayOutcome (money_job shown empty_book) queue q es es' h h' planned) _
      (λ planned p. replay_answers s empty_book q queue es es' h h' planned shown same p) o

  pub owned_answers : (slots : Q) (rows rows' : OwnedRows Money)
      → IfOk r (λ planned. OwnedReplay (money_job shown empty_book) queue slots q es es' rows rows' planned)
      → IfOk r (λ planned.
      IsAnswer (new_job_problem s es q) (counts_of queue (owned_memory rows slots)) rows'.run.items planned)
  owned_answers slots rows rows' o =
      IfOk-weaker r (λ planned. OwnedReplay (money_job shown empty_book) queue slots q es es' rows rows' planned) _
      (λ planned p. replay_answers s empty_book q queue es es'
      (owned_memory rows slots) (owned_memory rows' p.0) planned shown same p.1) o

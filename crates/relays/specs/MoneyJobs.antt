-- A job over a survey as a site for money, and the problem of a plan that is made on it after a list of calls.
-- Stands on jobs, and on the minimum cost path problem with relays.
use Rattle.std.specs.Prelude.{ℕ, Bool, List, length}
use Rattle.subject.specs.declared.money.Money.{Money}
use Rattle.subject.specs.declared.run.Request.{Request}
use Rattle.subject.specs.Moneys.{money}
use Rattle.survey.specs.declared.sealed.Sealed.{Sealed}
use Rattle.survey.specs.declared.view.SurveyView.{SurveyView}
use Rattle.survey.specs.Contents.{Contents}
use Rattle.survey.specs.Sealing.{sealed_contents}
use Rattle.survey.specs.SurveySite.{money_site, view_contents}
use Rattle.job.specs.declared.job.Job.{Job}
use Rattle.job.specs.declared.list.Entry.{Entry}
use Rattle.job.specs.Book.{after_calls, empty_book}
use Rattle.job.specs.Jobs.{JobState, site_below, closed_by}
use Rattle.job.specs.Replay.{calls_of}
use Rattle.relays.specs.Problem.{RelayProblem}

-- how things are with a job for money over a survey of these contents, with a closing book
abbrev pub money_job : Contents → (ℕ → Bool) → JobState Money
money_job c book = record { kind = money; below = money_site c; book = book }

-- the problem after the listed calls on such a job: the ways of the closing book for them are shut
abbrev pub problem_after : Contents → (ℕ → Bool) → List (Entry Money) → Request → RelayProblem
problem_after c book entries q =
    record { contents = c; is_shut = after_calls (length c.ways) book (calls_of entries); request = q }

-- both, for a job that is there
abbrev pub job_state : Job (SurveyView Money) → JobState Money
job_state j = money_job (view_contents (site_below j)) (closed_by j)

abbrev pub job_problem : Job (SurveyView Money) → List (Entry Money) → Request → RelayProblem
job_problem j entries q = problem_after (view_contents (site_below j)) (closed_by j) entries q

-- and for a new job over a sealed survey
abbrev pub new_job_state : Sealed → JobState Money
new_job_state s = money_job (sealed_contents s) empty_book

abbrev pub new_job_problem : Sealed → List (Entry Money) → Request → RelayProblem
new_job_problem s entries q = problem_after (sealed_contents s) empty_book entries q

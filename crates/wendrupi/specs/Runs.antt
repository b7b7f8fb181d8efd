-- What a plan comes to that has as many rows as it needs: a least run with its total, or a refusal. Stands on runs and
-- on the checks of a request.
use Rattle.std.specs.Prelude.{◌≡◌, ℕ, ◌+◌, ◌*◌, ◌⊎◌, min, List, length, Result, MatchResult, vec_items}
use Rattle.subject.specs.declared.charge.Charge.{Ghosts as ChargeGhosts}
use Rattle.subject.specs.declared.refusal.Refusal.{Refusal}
use Rattle.subject.specs.declared.refusal.Refusal.TheVariants.{NoRun}
use Rattle.subject.specs.declared.run.Request.{Request}
use Rattle.subject.specs.declared.run.TheConstants.{MOST_BOUND}
use Rattle.subject.specs.Problems.{Problem, kind_of}
use Rattle.subject.specs.Runs.{IsLeast, NoLawfulRun}
use Rattle.survey.specs.declared.entry.WayEntry.{WayEntry}
use Rattle.survey.specs.Contents.{Contents}
use Rattle.survey.specs.SurveySite.{survey_site}
use Rattle.answers.specs.Plans.{IsPlanAnswer}
use Rattle.search.specs.Checks.{RequestPasses, RequestCause}
use Rattle.wendrupi.specs.declared.plan.Run.{Run}

-- what is asked of a run over a survey, for a charge kind in which ways and repeaters are charged so
abbrev pub problem_over : {K : Type 0} → ChargeGhosts K → (WayEntry → K) → (ℕ → K) → Contents → Request → Problem K
problem_over k of_way of_repeater c q =
    record { kind = kind_of k; site = survey_site of_way of_repeater c; request = q }

-- how many rows a plan over so many places with this bound needs; a bound over 1,000 is refused
abbrev pub row_count : ℕ → ℕ → ℕ
row_count places bound = places * (min bound MOST_BOUND + 1)

-- how many bytes the page for the sheet of so many steps has
abbrev pub page_of : ℕ → ℕ
page_of steps = min (min (steps + 2) 18446744073709551615 * 128) 18446744073709551615

-- the text is what is answered to a plan for money, with as many rows as it needs and a page that all sheets fit
abbrev pub IsMoneyAnswer : Contents → Request → List ℕ → Type 0
IsMoneyAnswer c q text =
    let rows = row_count (length c.places) q.bound in IsPlanAnswer c q rows (page_of rows) text

module _ {C : Type 0} (P : Problem C) where
  -- nothing speaks against the request, and the run is a least one
  pub record RunFound (r : Run C) : Type 0 where
    pub passes : RequestPasses P.site.places P.request
    pub least : IsLeast P (vec_items r.steps) r.total

  -- the refusal e names the first cause that speaks against the request; or nothing does, and no run is lawful
  abbrev pub RunRefused : Refusal → Type 0
  RunRefused e =
      RequestCause P.site.places P.request e
      ⊎ ((e ≡ NoRun) × RequestPasses P.site.places P.request × NoLawfulRun P)

  -- what a plan comes to
  abbrev pub IsPlanned : Result (Run C) Refusal → Type 0
  IsPlanned r = MatchResult r RunFound RunRefused

-- What the sheet call answers and leaves, for every request, list of steps and number of bytes. Stands on the text of a
-- sheet and on the causes for which a request is refused by itself.
use Rattle.std.specs.Prelude.{◌≡◌, ℕ, ◌<◌, ◌≤◌, ◌⊎◌, List, ◌++◌, length, drop}
use Rattle.subject.specs.declared.money.Money.{Money}
use Rattle.subject.specs.declared.refusal.Refusal.{Refusal}
use Rattle.subject.specs.declared.refusal.Refusal.TheVariants.{NotLawful, NoRoom}
use Rattle.subject.specs.declared.run.Step.{Step}
use Rattle.subject.specs.declared.run.Request.{Request}
use Rattle.subject.specs.Problems.{Problem}
use Rattle.subject.specs.Runs.{IsRun}
use Rattle.survey.specs.declared.sealed.Sealed.{Sealed}
use Rattle.survey.specs.Sealing.{sealed_contents}
use Rattle.survey.specs.SurveySite.{money_problem}
use Rattle.search.specs.Checks.{RequestPasses, RequestCause}
use Rattle.sheet.specs.Sheet.{sheet_text}

-- what is asked of a run for money over a sealed survey
abbrev pub sealed_problem : Sealed → Request → Problem Money
sealed_problem survey request = money_problem (sealed_contents survey) request

module _ (P : Problem Money) (steps : List Step) where
  -- nothing speaks against the request, and the steps are a lawful run
  pub record SheetExists : Type 0 where
    pub passes : RequestPasses P.site.places P.request
    pub lawful : IsRun P steps

  -- a sheet of n bytes was drawn: it is at the front of the bytes, and the bytes behind are as they were
  pub record PageDrawn (out out' : List ℕ) (n : ℕ) : Type 0 where
    pub exists : SheetExists
    pub long : n ≡ length (sheet_text P steps)
    pub fits : n ≤ length out
    pub bytes : out' ≡ sheet_text P steps ++ drop n out

  -- why there is no sheet: the steps are no lawful run, or the text is longer than the bytes, which are so many
  abbrev pub RunCause : ℕ → Refusal → Type 0
  RunCause room e =
      ((e ≡ NotLawful) × (IsRun P steps → ⊥))
      ⊎ ((e ≡ NoRoom) × IsRun P steps × (room < length (sheet_text P steps)))

  -- the refusal e names the first cause: the request by itself comes before the steps
  abbrev pub PageRefused : ℕ → Refusal → Type 0
  PageRefused room e =
      RequestCause P.site.places P.request e
      ⊎ (RequestPasses P.site.places P.request × RunCause room e)

-- A step from where a run has come to, where all steps of a run lead, and what it comes to. Stands on runs.
use Rattle.std.specs.Prelude.{◌≡◌, ◌+◌, List, Some}
use Rattle.subject.specs.Problems.{Problem}
use Rattle.subject.specs.declared.way.Way.{Way}
use Rattle.subject.specs.declared.run.Step.{Step}
use Rattle.subject.specs.Runs.{IsStepOver, IsRun, loss_after, after_way, total}
use Rattle.sheet.specs.declared.pricing.Position.{Position}

module _ {C : Type 0} (P : Problem C) where
  -- the step may not be made from here, over any way
  abbrev pub NoStepFrom : Position C → Step → Type 0
  NoStepFrom here step = (w : Way C) → IsStepOver P here.place here.loss step w → ⊥

  -- the step leads lawfully from here to there
  pub record IsStepTo (here : Position C) (step : Step) (there : Position C) : Type 0 where
    pub over : Way C
    pub goes : IsStepOver P here.place here.loss step over
    pub place : there.place ≡ over.to
    pub loss : there.loss ≡ loss_after step.mark (here.loss + over.loss)
    pub sum : there.sum ≡ after_way P here.sum step.mark (Some over)

  -- all steps lead there: they are a lawful run just if that is the end, and then their total is the sum there
  pub record IsBehind (steps : List Step) (there : Position C) : Type 0 where
    pub lawful : there.place ≡ P.request.end → IsRun P steps
    pub only : IsRun P steps → there.place ≡ P.request.end
    pub sum : there.sum ≡ total P steps

  -- the steps are a lawful run, and the sum is its total
  pub record IsPriced (steps : List Step) (sum : C) : Type 0 where
    pub lawful : IsRun P steps
    pub comes_to : sum ≡ total P steps

-- A run is followed from its start: it is lawful just if what is left of it leads on lawfully from where it has come
-- to, and its total is that of what is left upon the total so far. By one step at a time.
use Rattle.std.proofs.Common.{◌≡◌, ℕ, ◌+◌, ◌<◌, false, List, ◌∷◌, length, get_or, drop, Some, Option, sym, ap, ◌∙◌, subst}
use Rattle.std.proofs.lemmas.List.{drop_more}
use Rattle.subject.specs.Problems.{Problem}
use Rattle.subject.specs.declared.way.Way.{Way}
use Rattle.subject.specs.declared.run.Step.{Step}
use Rattle.subject.specs.Runs.{IsLawful, IsRun, loss_after, after_way, total_from, total}
use Rattle.sheet.specs.declared.pricing.Position.{Position}
use Rattle.sheet.specs.Positions.{IsStepTo}

module _ {C : Type 0} (P : Problem C) (steps : List Step) where
  -- what is left of the run, from where it has come to, decides for the whole
  pub record IsFollowed (here : Position C) (rest : List Step) : Type 0 where
    pub whole : IsLawful P here.place here.loss rest → IsRun P steps
    pub back : IsRun P steps → IsLawful P here.place here.loss rest
    pub sum : total_from P here.sum rest ≡ total P steps

  same_way : (o : Option (Way C)) (v w : Way C) → o ≡ Some v → o ≡ Some w → v ≡ w
  same_way o v w a b = cc

  -- one step of what is left
  module _ (here there : Position C) (s : Step) (rest : List Step) (g : IsStepTo P here s there) where
    abbrev LeadsOn : Way C → Type 0
    LeadsOn w = IsLawful P w.to (loss_after s.mark (here.loss + w.loss)) rest

    -- the rest leads on from where the step's way arrives just if it does from there
    from_there : IsLawful P there.place there.loss rest → LeadsOn g.over
    from_there l =
        subst (λ p. IsLawful P p (loss_after s.mark (here.loss + g.over.loss)) rest) g.place
        (subst (λ n. IsLawful P there.place n rest) g.loss l)

    to_there : LeadsOn g.over → IsLawful P there.place there.loss rest
    to_there l =
        subst (λ n. IsLawful P there.place n rest) (sym g.loss)
        (subst (λ p. IsLawful P p (loss_after s.mark (here.loss + g.over.loss)) rest) (sym g.place) l)

    pub followed_on : IsFollowed here (s ∷ rest) → IsFollowed there rest
    followed_on f = record {
      whole = λ l. f.whole (g.over, g.goes, from_there l);
      back = λ r.
          let l = f.back r in
          to_there (subst LeadsOn (same_way (P.site.way s.way) l.0 g.over l.1.opens g.goes.opens) l.2);
      sum =
          ap (λ c. total_from P c rest) (g.sum ∙ ap (after_way P here.sum s.mark) (sym g.goes.opens)) ∙ f.sum;
    }

  -- the next step, by its number
  abbrev pub step_at : ℕ → Step
  step_at i = get_or steps i (record { way = 0; mark = false })

  pub followed_next : (i : ℕ) (here : Position C) → i < length steps → IsFollowed here (drop i steps)
      → IsFollowed here (step_at i ∷ drop (i + 1) steps)
  followed_next i here h f = subst (IsFollowed here) (drop_more steps i (record { way = 0; mark = false }) h) f

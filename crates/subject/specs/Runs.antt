-- Runs: when one is lawful for a problem, what its total is, and when it is a least one. Stands on Problems.
use Rattle.std.specs.Prelude.{◌≡◌, ℕ, ◌+◌, ◌≤◌, Bool, true, false, cond, ◌≢◌, List, [], ◌∷◌, Some, None, Option}
use Rattle.subject.specs.declared.way.Way.{Way}
use Rattle.subject.specs.declared.run.Step.{Step}
use Rattle.subject.specs.Problems.{Problem}

module _ {C : Type 0} (P : Problem C) where
  -- a repeater may be marked at the place p: it has a charge there, and p is neither the start nor the end
  pub record IsMarkable (p : ℕ) : Type 0 where
    pub repeater : C
    pub entered : P.site.repeater p ≡ Some repeater
    pub not_start : p ≢ P.request.start
    pub not_end : p ≢ P.request.end

  abbrev pub IsMarkAllowed : Bool → ℕ → Type 0
  IsMarkAllowed true p = IsMarkable p
  IsMarkAllowed false p = Unit {0}

  -- the step s goes over the open way w from the place p, where the run has lost l since the last repeater
  pub record IsStepOver (p l : ℕ) (s : Step) (w : Way C) : Type 0 where
    pub opens : P.site.way s.way ≡ Some w
    pub leaves : w.from ≡ p
    pub arrives : l + w.loss ≤ P.request.bound
    pub marks : IsMarkAllowed s.mark w.to

-- a mark clears the loss
abbrev pub loss_after : Bool → ℕ → ℕ
loss_after mark l = cond mark 0 l

-- the steps lead on lawfully from the place p, with the loss l so far, to the end.
-- No clause forbids a mark on the last step by itself: it arrives at the end, and no mark may be there.
abbrev pub IsLawful : {C : Type 0} → Problem C → ℕ → ℕ → List Step → Type 0
IsLawful P p l [] = p ≡ P.request.end
IsLawful {C} P p l (s ∷ rest) = (w : Way C) × IsStepOver P p l s w × IsLawful P w.to (loss_after s.mark (l + w.loss)) rest

-- the steps are a lawful run; no steps are one from a place to itself
abbrev pub IsRun : {C : Type 0} → Problem C → List Step → Type 0
IsRun P run = IsLawful P P.request.start 0 run

-- a sum with the charge of a repeater joined to it
abbrev pub with_repeater : {C : Type 0} → Problem C → C → Option C → C
with_repeater P sum None = sum
with_repeater P sum (Some c) = P.kind.join sum c

-- a sum after a step over a way: joined with the way's charge and then, if marked, with that of the repeater where it arrives
abbrev pub after_way : {C : Type 0} → Problem C → C → Bool → Option (Way C) → C
after_way P sum mark None = sum
after_way P sum mark (Some w) =
    cond mark (with_repeater P (P.kind.join sum w.charge) (P.site.repeater w.to)) (P.kind.join sum w.charge)

-- a sum after some steps: charges are joined from left to right
abbrev pub total_from : {C : Type 0} → Problem C → C → List Step → C
total_from P sum [] = sum
total_from P sum (s ∷ rest) = total_from P (after_way P sum s.mark (P.site.way s.way)) rest

-- the total of a run begins with nothing
abbrev pub total : {C : Type 0} → Problem C → List Step → C
total P run = total_from P P.kind.nothing run

-- c is no more than the total of every lawful run, of every length and with every choice of repeaters
abbrev pub IsLowest : {C : Type 0} → Problem C → C → Type 0
IsLowest P c = (run : List Step) → IsRun P run → P.kind.no_more c (total P run) ≡ true

-- a lawful run with its total, and no lawful run's total is lower
pub record IsLeast {C : Type 0} (P : Problem C) (run : List Step) (sum : C) : Type 0 where
  pub lawful : IsRun P run
  pub comes_to : sum ≡ total P run
  pub lowest : IsLowest P sum

-- no steps are a lawful run
abbrev pub NoLawfulRun : {C : Type 0} → Problem C → Type 0
NoLawfulRun P = (run : List Step) → IsRun P run → ⊥

-- where a step leads, and with which loss the run goes on from there
abbrev pub place_behind : {C : Type 0} → Option (Way C) → ℕ
place_behind None = 0
place_behind (Some w) = w.to

abbrev pub loss_behind : {C : Type 0} → Option (Way C) → Bool → ℕ → ℕ
loss_behind None mark l = l
loss_behind (Some w) mark l = loss_after mark (l + w.loss)

-- the steps that lead on from the place p with the loss l never leave the place a with the loss b
abbrev pub IsAvoided : {C : Type 0} → Problem C → ℕ → ℕ → ℕ → ℕ → List Step → Type 0
IsAvoided P a b p l [] = Unit {0}
IsAvoided P a b p l (s ∷ rest) =
    (p ≡ a → l ≢ b)
    × IsAvoided P a b (place_behind (P.site.way s.way)) (loss_behind (P.site.way s.way) s.mark l) rest

-- the steps leave no place twice with the same loss
abbrev pub NoneTwice : {C : Type 0} → Problem C → ℕ → ℕ → List Step → Type 0
NoneTwice P p l [] = Unit {0}
NoneTwice P p l (s ∷ rest) =
    IsAvoided P p l (place_behind (P.site.way s.way)) (loss_behind (P.site.way s.way) s.mark l) rest
    × NoneTwice P (place_behind (P.site.way s.way)) (loss_behind (P.site.way s.way) s.mark l) rest

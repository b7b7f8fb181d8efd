-- What a plan gave, as a number: the figure of its total, or the refusal. Stands on what a plan answers.
use Rattle.std.specs.Prelude.{ℕ, Ok, Err, Result}
use Rattle.subject.specs.declared.refusal.Refusal.{Refusal}
use Rattle.planner.specs.declared.plan.Planned.{Planned}

abbrev pub figure_given : {C : Type 0} → (C → ℕ) → Result (Planned C) Refusal → Result ℕ Refusal
figure_given figure (Ok p) = Ok (figure p.total)
figure_given figure (Err e) = Err e

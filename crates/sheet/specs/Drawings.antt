-- What steps are drawn for, and their lines. Stands on sheets, and on the struct of a drawing.
use Rattle.std.specs.Prelude.{ℕ, List}
use Rattle.subject.specs.declared.money.Money.{Money}
use Rattle.subject.specs.declared.charge.Charge.{Ghosts as ChargeGhosts}
use Rattle.subject.specs.declared.site.Site.{Ghosts as SiteGhosts}
use Rattle.subject.specs.Problems.{Problem, problem_of}
use Rattle.sheet.specs.declared.steps.Drawing.{Drawing}
use Rattle.sheet.specs.Sheet.{step_lines, sheet_text}

-- what the steps are to be a run for
abbrev pub drawing_problem : {S C : Type 0} {s : SiteGhosts S C} {c : ChargeGhosts C} → Drawing S C s c → Problem C
drawing_problem {s = s} {c = c} d = problem_of s c d.site.now d.request

-- the lines of the steps, and the whole sheet of a run for money
abbrev pub drawing_lines : {S C : Type 0} {s : SiteGhosts S C} {c : ChargeGhosts C} → Drawing S C s c → List ℕ
drawing_lines d = step_lines (drawing_problem d) 0 d.steps.now

abbrev pub drawing_text : {S : Type 0} {s : SiteGhosts S Money} {c : ChargeGhosts Money} → Drawing S Money s c → List ℕ
drawing_text d = sheet_text (drawing_problem d) d.steps.now

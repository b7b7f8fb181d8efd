-- The text of a step is plain ASCII, hence UTF-8; so a line that is not UTF-8 is the text of none.
use Rattle.std.proofs.Common.{◌^◌, ◌<◌, Bool, true, false, ◌++◌, IsAscii, codes, decimal, sym, subst, arith}
use Rattle.std.specs.List.{AllByRecursion as All}
use Rattle.std.proofs.ByRecursion.{IsAscii-from_all, All-from_ascii, All-append}
use Rattle.std.proofs.lemmas.Fmt.{IsAscii-decimal}
use Rattle.std.proofs.lemmas.Str.{IsUtf8-from_ascii}
use Rattle.subject.specs.declared.run.Step.{Step}
use Rattle.wendrupi.specs.Steps.{mark_text, step_text}
use Rattle.wendrupi.proofs.steps.step_of_line.Goals as goal

mark_ascii : (mark : Bool) → All (λ b. b < 128) (codes " " ++ mark_text mark)
mark_ascii true = (omega arith, (omega arith, tt))
mark_ascii false = (omega arith, (omega arith, tt))

step_ascii : (s : Step) → s.way < 2 ^ 64 → IsAscii (step_text s)
step_ascii s small =
    IsAscii-from_all (step_text s) (All-append (λ b. b < 128) (decimal s.way) (codes " " ++ mark_text s.mark)
    (All-from_ascii _ (IsAscii-decimal s.way small)) (mark_ascii s.mark))

pub returns-in_default-clause-none : goal.returns-in_default-clause-none
returns-in_default-clause-none c =
    λ s small is. c.in_default.ensures.cases.0 (IsUtf8-from_ascii _ (subst IsAscii (sym is) (step_ascii s small)))

-- The text of a step falls at its space into the digits of its way and the word of its mark, since no digit is a space.
use Rattle.std.proofs.Common.{Some, None, decimal, arith}
use Rattle.std.proofs.lemmas.Str.Pattern.{split_after}
use Rattle.job.proofs.Splits.{no_space}
use Rattle.wendrupi.specs.Steps.{mark_text}
use Rattle.wendrupi.proofs.steps.words_say.Goals as goal

pub returns-in_err-way : goal.returns-in_err-way
returns-in_err-way c s small e =
    absurd (split_after 32 c.args.line.now (decimal s.way) (mark_text s.mark) None c.in_err-way.ensures.cases (omega arith) e (no_space s.way small))

pub returns : goal.returns
returns c s small e =
    let parts = split_after 32 c.args.line.now (decimal s.way) (mark_text s.mark) (Some (c.in_ok-way.way, c.in_ok-way.mark)) c.in_ok-way.ensures.cases (omega arith) e (no_space s.way small) in
    c.step_with.ensures s (c.number.ensures s.way small parts.0) (c.mark_of.ensures s.mark parts.1)

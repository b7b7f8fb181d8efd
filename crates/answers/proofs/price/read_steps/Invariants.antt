-- The steps so far, and those in the bytes that are left, are those of all bytes.
use Rattle.std.proofs.Common.{◌≡◌, ◌++◌, length}
use Rattle.answers.specs.Price.{steps_in}
use Rattle.answers.proofs.price.read_steps.Given as goal

abbrev pub invariant-loop-rest : goal.invariant-loop-rest
invariant-loop-rest l = l.steps.items ++ steps_in l.rest ≡ steps_in l.fn.bytes

abbrev pub decreases-loop-rest : goal.decreases-loop-rest
decreases-loop-rest l = length l.rest

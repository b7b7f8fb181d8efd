-- What parse reads of the digits of a number is that number.
use Rattle.std.proofs.Common.{rules}
use Rattle.std.proofs.lemmas.Fmt.{parse-decimal}
use Rattle.wendrupi.proofs.steps.number.Goals as goal

pub returns : goal.returns
returns c n small e = let read = parse-decimal 64 n c.args.word.now c.parse.result small small e c.parse.ensures.value.0 in search rules

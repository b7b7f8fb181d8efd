-- The line says the word, and then the number.
use Rattle.std.proofs.Common.{◌++◌, codes, ap, ◌∙◌, arith, rules}
use Rattle.sheet.specs.Refused.{number_then}
use Rattle.sheet.proofs.Growing.{said-none, said-piece, said-number_then}
use Rattle.sheet.proofs.lines.total_line.Goals as goal

pub returns : goal.returns
returns c =
    let a = codes "TOTAL " in
    let none = said-none _ c.new-line.ensures in
    let word = said-piece _ _ _ _ none a 6 c.push.ensures (omega arith) (omega arith) in
    let whole =
    said-number_then _ _ a _ word c.amount.result 10 (search rules) c.push_number_then.ensures (omega arith) in
    whole.is ∙ ap (λ n. a ++ number_then n 10) c.amount.ensures

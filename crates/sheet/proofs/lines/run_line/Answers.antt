-- The line says the word, and then the three numbers.
use Rattle.std.proofs.Common.{◌++◌, codes, ◌∙◌, arith, rules}
use Rattle.std.proofs.lemmas.List.{append_assoc}
use Rattle.sheet.specs.Refused.{number_then}
use Rattle.sheet.proofs.Growing.{said-none, said-piece, said-number_then}
use Rattle.sheet.proofs.lines.run_line.Goals as goal

pub returns : goal.returns
returns c =
    let q = c.args.request in
    let a = codes "RUN " in
    let b = number_then q.start 32 in
    let d = number_then q.end 32 in
    let e = number_then q.bound 10 in
    let none = said-none _ c.new-line.ensures in
    let word = said-piece _ _ _ _ none a 4 c.push.ensures (omega arith) (omega arith) in
    let one = said-number_then _ _ a _ word q.start 32 (search rules) c.push_number_then.ensures (omega arith) in
    let two = said-number_then _ _ (a ++ b) _ one q.end 32 (search rules) c.push_number_then-2.ensures (omega arith) in
    let three =
    said-number_then _ _ ((a ++ b) ++ d) _ two q.bound 10 (search rules) c.push_number_then-3.ensures (omega arith) in
    three.is ∙ append_assoc (a ++ b) d e ∙ append_assoc a b (d ++ e)

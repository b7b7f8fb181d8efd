-- The line says the four numbers, and then the mark.
use Rattle.std.proofs.Common.{◌≤◌, Bool, true, false, [], ◌++◌, length, ap, ◌∙◌, arith, rules}
use Rattle.std.proofs.lemmas.List.{append_assoc}
use Rattle.sheet.specs.Lines.{text_and}
use Rattle.sheet.specs.Refused.{number_then}
use Rattle.sheet.specs.Sheet.{mark_end}
use Rattle.sheet.proofs.Growing.{said-none, said-piece, said-number_then}
use Rattle.sheet.proofs.lines.step_line.Goals as goal

mark_long : (mark : Bool) → length (mark_end mark) ≤ 2
mark_long true = omega arith
mark_long false = omega arith

pub returns : goal.returns
returns c =
    let x = c.args in
    let a = number_then x.way 32 in
    let b = number_then x.from 32 in
    let d = number_then x.to 32 in
    let e = number_then x.loss 32 in
    let f = mark_end x.mark in
    let none = said-none _ c.new-line.ensures in
    let one = said-number_then _ _ [] _ none x.way 32 (search rules) c.push_number_then.ensures (omega arith) in
    let two = said-number_then _ _ a _ one x.from 32 (search rules) c.push_number_then-2.ensures (omega arith) in
    let three = said-number_then _ _ (a ++ b) _ two x.to 32 (search rules) c.push_number_then-3.ensures (omega arith) in
    let four =
    said-number_then _ _ ((a ++ b) ++ d) _ three x.loss 32 (search rules) c.push_number_then-4.ensures (omega arith) in
    let mark = c.push.ensures ∙ ap (text_and _) c.mark_end.ensures in
    let all = said-piece _ _ (((a ++ b) ++ d) ++ e) _ four f 2 mark (mark_long x.mark) (omega arith) in
    all.is ∙ append_assoc ((a ++ b) ++ d) e f ∙ append_assoc (a ++ b) d (e ++ f) ∙ append_assoc a b (d ++ (e ++ f))

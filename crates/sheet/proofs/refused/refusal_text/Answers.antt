-- The line says the word, and then the number and the place, if there is one.
use Rattle.std.proofs.Common.{◌≡◌, [], ◌++◌, codes, sym, ap, ◌∙◌, arith, rules}
use Rattle.std.proofs.lemmas.List.{append_assoc}
use Rattle.sheet.specs.declared.text.TextLine.{TextLine}
use Rattle.sheet.specs.Lines.{text_of, text_and}
use Rattle.sheet.specs.Refused.{number_then, refusal_text}
use Rattle.sheet.proofs.Growing.{IsSaid, said-none, said-piece, said-number_then}
use Rattle.sheet.proofs.refused.refusal_text.Goals as goal

-- the word
said-word : (line line' : TextLine) → text_of line ≡ [] → text_of line' ≡ text_and (text_of line) (codes "REFUSED ")
    → IsSaid (text_of line') (codes "REFUSED ") 8
said-word line line' e is =
    said-piece (text_of line) (text_of line') [] 0 (said-none _ e) (codes "REFUSED ") 8 is (omega arith) (omega arith)

pub returns-in-Call : goal.returns-in-Call
returns-in-Call c =
    let a = codes "REFUSED " in
    let word = said-word c.new-line.result c.push.new.self c.new-line.ensures c.push.ensures in
    let whole =
    said-number_then _ _ a 8 word c.code.result 10 (search rules) c.push_number_then.ensures (omega arith) in
    whole.is ∙ ap (λ n. a ++ number_then n 10) c.code.ensures ∙ ap refusal_text (sym c.in-Call.is)

pub returns-in-File : goal.returns-in-File
returns-in-File c =
    let a = codes "REFUSED " in
    let code = c.code-in-File.result in
    let place = c.in-File.fault.place in
    let b = number_then code 32 in
    let d = number_then place 10 in
    let word = said-word c.new-line.result c.push.new.self c.new-line.ensures c.push.ensures in
    let one =
    said-number_then _ _ a 8 word code 32 (search rules) c.push_number_then-in-File.ensures (omega arith) in
    let whole =
    said-number_then _ _ (a ++ b) 29 one place 10 (search rules) c.push_number_then-in-File-2.ensures (omega arith) in
    whole.is
    ∙ append_assoc a b d
    ∙ ap (λ n. a ++ (number_then n 32 ++ d)) c.code-in-File.ensures
    ∙ ap refusal_text (sym c.in-File.is)

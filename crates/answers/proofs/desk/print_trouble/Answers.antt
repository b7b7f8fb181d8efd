-- The line that was laid out, in a vector that was empty, is the line of the trouble.
use Rattle.std.proofs.Common.{◌≡◌, ℕ, List, ◌++◌, ◌∙◌, ap, OnOk, subst}
use Rattle.sheet.specs.Printing.{IsPrinted}
use Rattle.answers.specs.Desk.{trouble_line}
use Rattle.answers.proofs.desk.print_trouble.Goals as goal

pub returns : goal.returns
returns g c =
    let text = trouble_line c.args.trouble in
    let line : c.as_slice.result.now ≡ text =
    c.as_slice.ensures.value ∙ c.in_ok-writeln.ensures.bytes ∙ ap (λ (z : List ℕ). z ++ text) c.new-line.ensures in
    subst (λ t. OnOk c.print_text.result (IsPrinted g.W.Write c.args.out.now c.print_text.new.out t)) line c.print_text.ensures

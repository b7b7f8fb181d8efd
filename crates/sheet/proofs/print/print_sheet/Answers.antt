-- The page has as many bytes as were asked for.
use Rattle.std.proofs.Common.{ℕ, OnOk, subst, ◌∙◌}
use Rattle.sheet.specs.Printing.{SomePrinted, Shown}
use Rattle.sheet.proofs.print.print_sheet.Goals as goal

pub returns : goal.returns
returns g c =
    let out = c.args.out.now in
    let shown = Shown c.args.survey.now c.args.request c.args.steps.now in
    let out' = c.print_page.new.out in
    let printed : ℕ → Type 0 = λ n. OnOk c.print_page.result (SomePrinted g.W.Write out out' (shown n)) in
    subst printed (c.deref_mut.ensures.len ∙ c.in_ok-page.ensures.len) c.print_page.ensures

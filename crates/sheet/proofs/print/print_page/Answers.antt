-- What is printed is the front of the page.
use Rattle.sheet.proofs.Pages.{sheet_shown}
use Rattle.sheet.proofs.print.print_page.Goals as goal

pub returns-in-Ok : goal.returns-in-Ok
returns-in-Ok g c =
    let x = c.args in
    sheet_shown g.W.Write x.out.now c.print_text.new.out c.print_text.result x.survey.now x.request x.steps.now
    x.page.now c.sheet.new.out c.in-Ok.length c.in-Ok.ensures.ok c.print_text.ensures

-- The first line, the lines of the steps and the last line are laid one behind the other, and there is room for each.
use Rattle.std.proofs.Common.{◌≡◌, ℕ, ◌≤◌, List, ◌++◌, length, refl, ap, ◌∙◌, arith}
use Rattle.survey_file.specs.Pieces.{put_bytes}
use Rattle.survey_file.proofs.Pieces.{parts_long, three_laid}
use Rattle.sheet.specs.Drawings.{drawing_lines}
use Rattle.sheet.specs.Lines.{text_of}
use Rattle.sheet.specs.Sheet.{total_line}
use Rattle.sheet.proofs.page.put_sheet.Goals as goal

-- the pieces are those of the sheet
same_parts : (a a' b b' c c' : List ℕ) → a ≡ a' → b ≡ b' → c ≡ c' → a ++ (b ++ c) ≡ a' ++ (b' ++ c')
same_parts a a' b b' c c' e f g =
    ap (λ x. x ++ (b ++ c)) e ∙ ap (λ x. a' ++ (x ++ c)) f ∙ ap (λ x. a' ++ (b' ++ x)) g

pub returns-clause-after : goal.returns-clause-after
returns-clause-after c =
    let out = c.args.out.now in
    let steps = drawing_lines c.args.drawing.now in
    let first = text_of c.run_line-first.result in
    let last = text_of c.total_line-last.result in
    let last-is = c.total_line-last.ensures ∙ ap total_line c.requires.comes_to in
    let text = same_parts first _ steps steps last _ c.run_line-first.ensures refl last-is in
    let long = parts_long first steps last in
    let measured = rw c.in_ok-ok_or.ensures.ok_part at c.length.ensures in
    let left = rw c.in_ok-room.ensures.ok_part at c.checked_sub.ensures in
    let room : length (first ++ (steps ++ last)) ≤ length out =
    omega (arith, c.len.ensures, c.len-2.ensures, left, measured.value, measured.few) in
    let told = c.in_ok-after_first.ensures in
    let told-steps = c.in_ok-after_steps.ensures in
    let laid = three_laid out first steps last room c.in_ok-after_first.after_first c.in_ok-after_steps.after_steps
    c.put_into.new.out c.put.new.out told.answer told.after told-steps.answer told-steps.after in
    c.put_into-2.ensures.after ∙ laid.1 ∙ ap (put_bytes out 0) text

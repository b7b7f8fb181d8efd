-- The lines of the entries before this one are written.
use Rattle.std.proofs.Common.{take}
use Rattle.sheet.specs.Printing.{IsPrinted}
use Rattle.answers.specs.Desk.{entry_lines}
use Rattle.answers.proofs.desk.print_entries.Given as goal

abbrev pub invariant-loop-entry : goal.invariant-loop-entry
invariant-loop-entry g l = IsPrinted g.W.Write l.initial.out l.out (entry_lines (take l.entry-index l.entries))

-- The fields of the entries so far are in the bytes.
use Rattle.survey_file.proofs.Writing.{Put}
use Rattle.survey_file.proofs.writer.put_all.Given as goal

abbrev pub invariant-loop-entry : goal.invariant-loop-entry
invariant-loop-entry g l = Put g.E.Entry.bytes l.entries l.initial.out l.start l.entry-index l.at l.out

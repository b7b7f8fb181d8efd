-- The text of a call is plain ASCII, hence UTF-8; so a line that is not UTF-8 is the text of none.
use Rattle.std.proofs.Common.{IsAscii, sym, subst}
use Rattle.std.proofs.lemmas.Str.{IsUtf8-from_ascii}
use Rattle.job.proofs.Splits.{call_ascii}
use Rattle.job.proofs.call_text.read_line.Goals as goal

pub returns-in_default-clause-none : goal.returns-in_default-clause-none
returns-in_default-clause-none c = λ k counted is. c.in_default.ensures.cases.0 (IsUtf8-from_ascii _ (subst IsAscii (sym is) (call_ascii k counted)))

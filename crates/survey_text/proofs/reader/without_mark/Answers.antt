-- A text has a byte-order mark or not.
use Rattle.std.proofs.Common.{sym}
use Rattle.csv.proofs.ReadFacts.{strip-short}
use Rattle.survey_text.proofs.FieldFacts.{marked, unmarked}
use Rattle.survey_text.proofs.reader.without_mark.Goals as goal

pub returns-in-len3-up : goal.returns-in-len3-up
returns-in-len3-up c = marked c.args.text.now c.in-len3-up.len_at_least c.if-first.true c.if-second.true c.if-third.true

pub returns-in_default : goal.returns-in_default
returns-in_default c = sym (strip-short c.args.text.now c.in_default.len_below)

pub returns-in_default-2 : goal.returns-in_default-2
returns-in_default-2 c = unmarked c.args.text.now (λ x y z. c.if-third.false z)

pub returns-in_default-3 : goal.returns-in_default-3
returns-in_default-3 c = unmarked c.args.text.now (λ x y z. c.if-second.false y)

pub returns-in_default-4 : goal.returns-in_default-4
returns-in_default-4 c = unmarked c.args.text.now (λ x y z. c.if-first.false x)

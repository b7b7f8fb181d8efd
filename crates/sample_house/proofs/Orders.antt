-- Money and disturbance have the laws of a charge kind. By arithmetic on their amounts and grades.
use Rattle.std.proofs.Common.{rules}
use Rattle.subject.specs.Charges.{Laws, ByMeaning}
use Rattle.subject.specs.Grades.{disturbance}
use Rattle.subject.specs.Moneys.{money}

pub money_laws : Laws money
money_laws = unfold ByMeaning in search rules

pub disturbance_laws : Laws disturbance
disturbance_laws = unfold ByMeaning in search rules

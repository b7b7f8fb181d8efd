-- Money: whole cents, where more than the ceiling means the ceiling. Stands on Charges.
use Rattle.std.specs.Prelude.{Bool, ℕ, ◌+◌, min, leb}
use Rattle.subject.specs.declared.money.TheConstants.{CEILING}
use Rattle.subject.specs.declared.money.Money.{Money}
use Rattle.subject.specs.Charges.{Kind}

abbrev pub of_cents : ℕ → Money
of_cents n = record { cents = n }

-- the cents that a sum of money means
abbrev pub amount : Money → ℕ
amount m = min m.cents CEILING

abbrev pub money_meaning : Money → Money
money_meaning m = of_cents (amount m)

abbrev pub no_money : Money
no_money = of_cents 0

-- joining adds, and stops at the ceiling
abbrev pub sum_of : Money → Money → Money
sum_of a b = of_cents (min (amount a + amount b) CEILING)

abbrev pub money_no_more : Money → Money → Bool
money_no_more a b = leb (amount a) (amount b)

abbrev pub money : Kind Money
money = record { meaning = money_meaning; nothing = no_money; join = sum_of; no_more = money_no_more }

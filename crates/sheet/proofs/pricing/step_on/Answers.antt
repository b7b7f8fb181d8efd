-- The three tests have passed, so the step may be made; where it leads is what the step says.
use Rattle.std.proofs.Common.{refl, rules}
use Rattle.sheet.proofs.pricing.step_on.Goals as goal

pub returns-clause-some : goal.returns-clause-some
returns-clause-some g c = record {
  over = c.in_ok-way.way;
  goes = record { opens = search rules; leaves = search rules; arrives = search rules; marks = search rules };
  place = refl;
  loss = c.loss_after-loss.ensures;
  sum = c.charge_after-sum.ensures;
}

-- The table passes the test of its rule, so each entry keeps it.
use Rattle.std.proofs.Common.{◌*◌, ◌<◌, rules}
use Rattle.survey.specs.declared.card.TheConstants.{ENTRIES}
use Rattle.survey.specs.Card.{hundredth, loss_per_100_metres}
use Rattle.survey.proofs.CardTable.{entry_is}
use Rattle.survey.proofs.card.entry.Goals as goal

pub returns : goal.returns
returns c =
    let below : c.args.metres < ENTRIES = search rules in
    search (rules, entry_is (λ r m. hundredth (m * loss_per_100_metres r)) ENTRIES)

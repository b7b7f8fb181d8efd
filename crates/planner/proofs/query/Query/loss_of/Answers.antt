-- The remainder by bound + 1 is at most the bound.
use Rattle.std.proofs.Common.{◌+◌, ◌<◌, refl, mod-lt, arith}
use Rattle.search.specs.Cells.{loss_of}
use Rattle.planner.proofs.query.Query.loss_of.Goals as goal

pub returns : goal.returns
unfolding loss_of
returns g c =
    let h : 0 < c.args.self.now.request.bound + 1 = omega arith in
    let m = mod-lt c.args.cell h in
    record { same = refl; low = omega arith }

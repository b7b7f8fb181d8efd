-- What the read gave is behind what came before.
use Rattle.sheet.proofs.Fills.{filled_next}
use Rattle.sheet.proofs.print.fill.Goals as goal

pub loop-at-preserved : goal.loop-at-preserved
loop-at-preserved g c =
    let l = c.loop-at in
    filled_next g.R.Read c.args.source.now l.source c.read_piece.new.source c.args.buffer.now l.buffer
    c.read_piece.new.buffer l.at c.in_ok-count.count l.auto.buffer c.read_piece.auto.buffer
    l.invariant c.in_ok-count.ensures.ok

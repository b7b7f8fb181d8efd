-- What the read gave is behind what came before.
use Rattle.std.proofs.Common.{◌≤◌, length, arith}
use Rattle.sheet.proofs.Fills.{came_next, room_left}
use Rattle.answers.proofs.input.read_front.Goals as goal

pub loop-at-preserved : goal.loop-at-preserved
loop-at-preserved g c =
    let l = c.loop-at in
    let read = c.in_ok-count.ensures in
    let inside : l.at ≤ length l.buffer = omega (arith, l.invariant.fits, l.auto.buffer) in
    let few : c.in_ok-count.count ≤ length c.read.new.buf = read.bound.0 in
    record {
      fits = omega (arith, few, c.read.auto.buf, room_left l.at l.buffer inside, l.auto.buffer);
      came = came_next _ _ _ l.at c.in_ok-count.count l.buffer c.read.new.buf inside few l.invariant.came read.bytes.0;
    }

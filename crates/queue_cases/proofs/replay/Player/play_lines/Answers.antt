-- each of the queues has answered one line more
use Rattle.std.proofs.Common.{◌<◌, ◌≤◌, None, length, arith}
use Rattle.std.proofs.lemmas.List.{take_all}
use Rattle.queue_cases.proofs.Turns.{played_more}
use Rattle.queue_cases.proofs.replay.Player.play_lines.Goals as goal

pub loop-line-preserved : goal.loop-line-preserved
loop-line-preserved g c =
    let i = c.loop-line.line-index in
    let lines = c.args.lines.now in
    let more : i < length lines = omega arith in
    record {
      ordered = c.ask_each.ensures.ordered;
      played = λ k d h. played_more _ _ _ _ lines i _ _ more (c.loop-line.invariant.played k d h) (c.ask_each.ensures.answered k d None (omega arith));
    }

pub returns-clause-played : goal.returns-clause-played
returns-clause-played g c =
    let lines = c.args.lines.now in
    let all : length lines ≤ c.loop-line.line-index = omega arith in
    rw (← take_all c.loop-line.line-index lines all) c.loop-line.invariant.played

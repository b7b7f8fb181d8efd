-- The first of the bytes that are left are a step, which is pushed; fewer than three are none.
use Rattle.std.proofs.Common.{◌≡◌, ℕ, ◌+◌, ◌*◌, ◌++◌, get_or, ap, rules}
use Rattle.std.specs.Prelude.{◌==◌}
use Rattle.subject.specs.declared.run.Step.{Step}
use Rattle.answers.specs.Price.{steps_in}
use Rattle.answers.proofs.Steps.{first_step, read_next, read_last}
use Rattle.answers.proofs.price.read_steps.Goals as goal

pub loop-rest-init : goal.loop-rest-init
loop-rest-init c = ap (λ l. l ++ steps_in c.args.bytes.now) c.new-steps.ensures.items

pub loop-rest-preserved : goal.loop-rest-preserved
loop-rest-preserved c =
    let rest = c.loop-rest.rest.now in
    let way : c.from_be_bytes.result ≡ get_or rest 0 0 * 256 + get_or rest 1 0 = search rules in
    let first : ◌≡◌ {A = Step} (record { way = c.from_be_bytes.result; mark = get_or rest 2 0 == 1 }) (first_step rest) =
    ap (λ (w : ℕ). record { way = w; mark = get_or rest 2 0 == 1 }) way in
    read_next c.loop-rest.steps.items c.push.new.self.items rest c.args.bytes.now _ c.in_ok-push.ensures.items first
    c.in-len3-up.len_at_least c.loop-rest.invariant

pub returns : goal.returns
returns c =
    read_last c.loop-rest.steps.items c.loop-rest.rest.now c.args.bytes.now c.in_default.len_below c.loop-rest.invariant

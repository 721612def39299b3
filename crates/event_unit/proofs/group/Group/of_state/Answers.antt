use Rattle.std.proofs.Common.{arith}
use Rattle.event_unit.proofs.States.{all_made}
use Rattle.event_unit.proofs.group.Group.of_state.Goals as goal

pub returns : goal.returns
returns g c =
    all_made c.loop-n.n c.args.states.now c.loop-n.group (omega (arith, c.told-states, c.count-n-end.ensures.value, c.loop-n-test.false)) c.loop-n.invariant

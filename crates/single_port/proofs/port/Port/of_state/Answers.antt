use Rattle.single_port.proofs.States.{is_port}
use Rattle.single_port.proofs.port.Port.of_state.Goals as goal

pub invariant_of-result : goal.invariant_of-result
invariant_of-result c = rw (c.shift_of.ensures, c.transfer_of.ensures, c.port_width.ensures.value) (is_port c.args.p c.args.state.now c.requires.facts)

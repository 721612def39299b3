use Rattle.std.proofs.Common.{arith}
use Rattle.buffered_ports.proofs.States.{all_made}
use Rattle.buffered_ports.proofs.ports.Ports.of_state.Goals as goal

pub returns : goal.returns
returns c = record { ports = all_made c.loop-p.p c.args.ports.now c.loop-p.made (omega (arith, c.loop-p-test.false)) (omega (arith, c.told-ports)) c.loop-p.invariant }

use Rattle.buffered_ports.proofs.States.{AreMade}
use Rattle.buffered_ports.proofs.ports.Ports.of_state.Given as goal

-- the ports below p are as the states say
abbrev pub invariant-loop-p : goal.invariant-loop-p
invariant-loop-p l = AreMade l.p l.ports l.made

use Rattle.buffered_ports.specs.Row.{row}
use Rattle.buffered_ports.proofs.States.{AreKept}
use Rattle.buffered_ports.proofs.ports.Ports.state.Given as goal

-- the states of the ports below p are there
abbrev pub invariant-loop-p : goal.invariant-loop-p
invariant-loop-p l = AreKept l.p (row l.self-inside) l.states

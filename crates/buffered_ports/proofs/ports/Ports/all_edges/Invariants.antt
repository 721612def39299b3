use Rattle.buffered_ports.proofs.InTurn.{Going}
use Rattle.buffered_ports.proofs.ports.Ports.all_edges.Given as goal

abbrev pub invariant-loop-rest : goal.invariant-loop-rest
invariant-loop-rest l = Going l.slot l.clocks l.levels l.high l.fn.self l.self l.fn.out l.out l.rest l.differs

abbrev pub decreases-loop-rest : goal.decreases-loop-rest
decreases-loop-rest l = l.rest

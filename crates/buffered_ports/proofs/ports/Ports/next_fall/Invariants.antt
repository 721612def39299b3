use Rattle.buffered_ports.proofs.Counts.{Asking}
use Rattle.buffered_ports.proofs.ports.Ports.next_fall.Given as goal

abbrev pub invariant-loop-rest : goal.invariant-loop-rest
invariant-loop-rest l = Asking l.clocks l.from l.bound l.self l.first l.rest

abbrev pub decreases-loop-rest : goal.decreases-loop-rest
decreases-loop-rest l = l.rest

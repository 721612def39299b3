use Rattle.std.proofs.Common.{◌-◌}
use Rattle.buffered_ports.proofs.Counts.{Passing}
use Rattle.buffered_ports.proofs.ports.Ports.pass.Given as goal

abbrev pub invariant-loop-rest : goal.invariant-loop-rest
invariant-loop-rest l = Passing l.clocks l.from (l.to - l.from) l.fn.self l.self l.rest

abbrev pub decreases-loop-rest : goal.decreases-loop-rest
decreases-loop-rest l = l.rest

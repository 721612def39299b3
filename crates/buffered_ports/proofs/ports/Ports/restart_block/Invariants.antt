use Rattle.std.proofs.Common.{◌≡◌, ◌++◌, map, take, drop}
use Rattle.xs_model.specs.PortActions.{restarted}
use Rattle.buffered_ports.proofs.ports.Ports.restart_block.Given as goal

-- the ports below p are restarted, and the others are as they were
abbrev pub invariant-loop-p : goal.invariant-loop-p
invariant-loop-p l = l.self ≡ map (restarted l.k) (take l.p l.fn.self) ++ drop l.p l.fn.self

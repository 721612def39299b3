use Rattle.std.proofs.Common.{take}
use Rattle.node_seats.proofs.Wired.{AreOfWires}
use Rattle.node_seats.proofs.pins.wired_at.Given as goal

-- the ports of the wires that were looked at
abbrev pub invariant-loop-wire : goal.invariant-loop-wire
invariant-loop-wire l = record { ports : AreOfWires l.n (take l.wire-index l.plan.wires) l.wired }

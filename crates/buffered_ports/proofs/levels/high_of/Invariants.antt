use Rattle.buffered_ports.proofs.High.{AreHighBelow}
use Rattle.buffered_ports.proofs.levels.high_of.Given as goal

-- the mask has the pins of the ports below p that are 1, and no others
abbrev pub invariant-loop-p : goal.invariant-loop-p
invariant-loop-p l = AreHighBelow l.p l.mask l.pins.level

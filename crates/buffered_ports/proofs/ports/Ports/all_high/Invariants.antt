use Rattle.xs_model.specs.Ports.{levels_of}
use Rattle.buffered_ports.specs.Row.{row}
use Rattle.buffered_ports.proofs.High.{AreHighBelow}
use Rattle.buffered_ports.proofs.ports.Ports.all_high.Given as goal

-- the mask has the pins of the ports below p that are 1, and no others
abbrev pub invariant-loop-p : goal.invariant-loop-p
invariant-loop-p l = AreHighBelow l.p l.mask (levels_of (row l.self-inside) l.levels)

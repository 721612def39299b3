use Rattle.std.proofs.Common.{length}
use Rattle.node_runners.proofs.Levels.{ComesOn}
use Rattle.node_runners.proofs.wire_inlets.WireInlet.come.Given as goal

-- what has come, and what is still to come
abbrev pub invariant-loop-e : goal.invariant-loop-e
invariant-loop-e l = ComesOn l.slot l.initial.self l.initial.pins l.self l.pins

abbrev pub decreases-loop-e : goal.decreases-loop-e
decreases-loop-e l = length l.self.inlet.queue

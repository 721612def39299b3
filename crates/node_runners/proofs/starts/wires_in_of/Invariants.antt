use Rattle.node_runners.proofs.Wiring.{InSoFar}
use Rattle.node_runners.proofs.starts.wires_in_of.Given as goal

-- those of the wires that were looked at
abbrev pub invariant-loop-wire : goal.invariant-loop-wire
invariant-loop-wire l = InSoFar l.plan l.n l.wire-index l.ends.items

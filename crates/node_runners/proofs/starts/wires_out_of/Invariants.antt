use Rattle.node_runners.proofs.Wiring.{OutSoFar}
use Rattle.node_runners.proofs.starts.wires_out_of.Given as goal

-- those of the wires that were looked at
abbrev pub invariant-loop-wire : goal.invariant-loop-wire
invariant-loop-wire l = OutSoFar l.plan l.n l.wire-index l.ends.items

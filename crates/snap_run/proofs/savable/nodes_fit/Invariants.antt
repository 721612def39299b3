use Rattle.std.proofs.Common.{take}
use Rattle.std.specs.List.{AllByRecursion}
use Rattle.snap_parts.specs.declared.node.SnapNode.{SnapNode}
use Rattle.state_bridge.specs.Fits.{NumbersFit}
use Rattle.snap_run.proofs.savable.nodes_fit.Given as goal

abbrev pub invariant-loop-node : goal.invariant-loop-node
invariant-loop-node l = AllByRecursion (λ (node : SnapNode). NumbersFit node.state) (take l.node-index l.nodes)

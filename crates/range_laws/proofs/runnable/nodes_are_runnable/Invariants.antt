use Rattle.std.specs.List.{AllWithin}
use Rattle.range_laws.specs.Ranges.{IsRunnable}
use Rattle.range_laws.proofs.runnable.nodes_are_runnable.Given as goal

-- those before this one are
abbrev pub invariant-loop-node : goal.invariant-loop-node
invariant-loop-node l = AllWithin IsRunnable l.nodes 0 l.node-index

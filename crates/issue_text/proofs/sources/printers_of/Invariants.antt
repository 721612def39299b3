use Rattle.std.proofs.Common.{◌≡◌, map, take}
use Rattle.sys_plan.specs.declared.NodePlan.{NodePlan}
use Rattle.issue_text.proofs.sources.printers_of.Given as goal

abbrev pub invariant-loop-node : goal.invariant-loop-node
invariant-loop-node l = l.printers.items ≡ map (λ (node : NodePlan). node.image) (take l.node-index l.node-items)

use Rattle.std.proofs.Common.{◌≡◌, ◌++◌, false, take}
use Rattle.std.specs.Prelude.{flat_map}
use Rattle.xs_text.specs.Lines.{lines_of}
use Rattle.sys_plan.specs.declared.NodePlan.{NodePlan}
use Rattle.warning_model.specs.Warnings.{warnings_of_source_of}
use Rattle.warning_text.proofs.sources.add_sources.Given as goal

abbrev pub invariant-loop-node : goal.invariant-loop-node
invariant-loop-node l = l.warnings ≡ l.initial.warnings ++ flat_map (λ (node : NodePlan). warnings_of_source_of l.plan node.number 1 false (lines_of l.text)) (take l.node-index l.plan.nodes)

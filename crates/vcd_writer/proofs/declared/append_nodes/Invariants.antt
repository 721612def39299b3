use Rattle.std.proofs.Common.{◌≡◌, ◌++◌, take}
use Rattle.sys_plan.specs.Plan.{node_numbers}
use Rattle.wave_model.specs.Lines.{nodes_lines}
use Rattle.wave_model.specs.Waves.{text_of_lines}
use Rattle.vcd_writer.proofs.declared.append_nodes.Given as goal

abbrev pub invariant-loop-node : goal.invariant-loop-node
invariant-loop-node l = l.out ≡ l.fn.out ++ text_of_lines (nodes_lines 0 (take l.node (node_numbers l.plan)))

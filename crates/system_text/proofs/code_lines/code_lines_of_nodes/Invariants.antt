use Rattle.std.proofs.Common.{ℕ, ◌≡◌, map, take}
use Rattle.system_model.specs.CodeLines.{node_code_lines}
use Rattle.system_text.proofs.code_lines.code_lines_of_nodes.Given as goal

abbrev pub invariant-loop-node : goal.invariant-loop-node
invariant-loop-node l = map (λ numbers. numbers.items) l.nodes.items ≡ map (node_code_lines l.frame) (take l.node-index l.given)

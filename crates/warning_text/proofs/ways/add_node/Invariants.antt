use Rattle.std.proofs.Common.{◌≡◌, drop}
use Rattle.warning_model.specs.Ways.{warnings_of_node_with}
use Rattle.warning_text.specs.Kept.{site_of}
use Rattle.warning_text.proofs.ways.add_node.Given as goal

abbrev pub invariant-loop-node : goal.invariant-loop-node
invariant-loop-node l = record {
  same : l.warnings ≡ l.initial.warnings;
  counted : l.place ≡ l.node-index;
  warnings : warnings_of_node_with (site_of l.site) l.plan l.number l.place (drop l.node-index l.nodes) ≡ warnings_of_node_with (site_of l.site) l.plan l.number 0 l.plan.nodes;
}

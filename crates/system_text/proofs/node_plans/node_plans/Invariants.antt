use Rattle.std.proofs.Common.{◌≡◌, drop}
use Rattle.system_model.specs.System.{edition_given, node_plans}
use Rattle.system_text.proofs.Plans.{in_front}
use Rattle.system_text.proofs.node_plans.node_plans.Given as goal

abbrev pub invariant-loop-node : goal.invariant-loop-node
invariant-loop-node l =
    in_front l.plans.items (node_plans (edition_given l.frame.edition) l.frame.links l.frame.bits l.frame.sections (drop l.node-index l.nodes)) ≡ node_plans (edition_given l.frame.edition) l.frame.links l.frame.bits l.frame.sections l.nodes

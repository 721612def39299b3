use Rattle.std.proofs.Common.{◌≡◌, drop}
use Rattle.system_model.specs.System.{net_of_end}
use Rattle.system_text.proofs.node_plans.net_of_end.Given as goal

abbrev pub invariant-loop-link : goal.invariant-loop-link
invariant-loop-link l = net_of_end (drop l.link-index l.links) l.name ≡ net_of_end l.links l.name

use Rattle.std.proofs.Common.{◌≡◌, map, take}
use Rattle.system_model.specs.System.{link_plan}
use Rattle.system_text.proofs.link_plans.link_plans.Given as goal

abbrev pub invariant-loop-link : goal.invariant-loop-link
invariant-loop-link l = l.plans.items ≡ map (link_plan l.nodes) (take l.link-index l.links)

use Rattle.std.proofs.Common.{◌≡◌, drop}
use Rattle.std.specs.Prelude.{◌==◌}
use Rattle.std.specs.List.{list_any}
use Rattle.sys_plan.specs.declared.LinkPlan.{LinkPlan}
use Rattle.route_ranks.proofs.no_way.has_net.Given as goal

-- no link so far is of the network
abbrev pub invariant-loop-link : goal.invariant-loop-link
invariant-loop-link l = list_any (λ (some : LinkPlan). some.net == l.net) l.links ≡ list_any (λ (some : LinkPlan). some.net == l.net) (drop l.link-index l.links)

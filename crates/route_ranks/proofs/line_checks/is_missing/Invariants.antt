use Rattle.std.proofs.Common.{◌≡◌, drop, is_none}
use Rattle.std.specs.List.{list_any}
use Rattle.sys_plan.specs.Plan.{Arc, link_arcs}
use Rattle.rank_model.specs.Checks.{given_rank, is_missing}
use Rattle.route_ranks.proofs.line_checks.is_missing.Given as goal

-- no link so far lacks a rank
abbrev pub invariant-loop-link : goal.invariant-loop-link
invariant-loop-link l = is_missing l.plan l.lines ≡ list_any (λ (arc : Arc). is_none (given_rank l.plan l.lines arc)) (link_arcs (drop l.link-index l.plan.links))

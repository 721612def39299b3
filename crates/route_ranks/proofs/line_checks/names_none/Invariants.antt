use Rattle.std.proofs.Common.{◌≡◌, drop}
use Rattle.std.specs.List.{list_any}
use Rattle.sys_plan.specs.Plan.{Arc, link_arcs}
use Rattle.rank_model.specs.Checks.{is_rank_of}
use Rattle.route_ranks.proofs.line_checks.names_none.Given as goal

-- no link so far is named
abbrev pub invariant-loop-link : goal.invariant-loop-link
invariant-loop-link l =
    list_any (λ (arc : Arc). is_rank_of l.plan arc l.rank) (link_arcs l.plan.links)
    ≡ list_any (λ (arc : Arc). is_rank_of l.plan arc l.rank) (link_arcs (drop l.link-index l.plan.links))

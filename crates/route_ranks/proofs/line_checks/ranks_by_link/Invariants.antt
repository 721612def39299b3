use Rattle.std.proofs.Common.{◌≡◌, ◌*◌, ◌++◌, drop, length, map}
use Rattle.sys_plan.specs.Plan.{Arc, link_arcs}
use Rattle.rank_model.specs.Checks.{given_rank, rank_or_0, ranks_by_link}
use Rattle.route_ranks.proofs.line_checks.ranks_by_link.Given as goal

-- the ranks of the links so far stand there, two for each
abbrev pub invariant-loop-link : goal.invariant-loop-link
invariant-loop-link l = record {
  count : length l.ranks.items ≡ 2 * l.link-index;
  all : ranks_by_link l.plan l.lines ≡ l.ranks.items ++ map (λ (arc : Arc). rank_or_0 (given_rank l.plan l.lines arc)) (link_arcs (drop l.link-index l.plan.links));
}

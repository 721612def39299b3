use Rattle.std.proofs.Common.{◌≡◌, ◌-◌}
use Rattle.std.specs.List.{list_any}
use Rattle.sys_plan.specs.Plan.{numbers_from}
use Rattle.rank_model.specs.Next.{link_count, is_next, has_next}
use Rattle.route_ranks.proofs.ways.has_next.Given as goal

-- no directed link so far leads on
abbrev pub invariant-loop-link : goal.invariant-loop-link
invariant-loop-link l = has_next l.plan l.node l.net l.dest ≡ list_any (is_next l.plan l.node l.net l.dest) (numbers_from l.link (link_count l.plan - l.link))

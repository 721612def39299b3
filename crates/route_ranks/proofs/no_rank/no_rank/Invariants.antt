use Rattle.std.proofs.Common.{◌≡◌, ◌-◌}
use Rattle.rank_model.specs.Next.{link_count, first_from}
use Rattle.rank_model.specs.Verdicts.{no_rank_after, no_rank}
use Rattle.route_ranks.proofs.no_rank.no_rank.Given as goal

-- none is found so far
abbrev pub invariant-loop-first : goal.invariant-loop-first
invariant-loop-first l = no_rank l.plan l.ranks ≡ first_from (no_rank_after l.plan l.ranks) l.first (link_count l.plan - l.first)

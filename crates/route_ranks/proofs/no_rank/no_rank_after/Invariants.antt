use Rattle.std.proofs.Common.{◌≡◌, ◌-◌}
use Rattle.rank_model.specs.Next.{link_count, first_from}
use Rattle.rank_model.specs.Verdicts.{no_rank_between, no_rank_after}
use Rattle.route_ranks.proofs.no_rank.no_rank_after.Given as goal

-- none is found so far
abbrev pub invariant-loop-second : goal.invariant-loop-second
invariant-loop-second l = no_rank_after l.plan l.ranks l.first ≡ first_from (no_rank_between l.plan l.ranks l.first) l.second (link_count l.plan - l.second)

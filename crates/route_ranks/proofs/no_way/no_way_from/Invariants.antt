use Rattle.std.proofs.Common.{◌≡◌, ◌-◌, length}
use Rattle.rank_model.specs.Next.{first_from}
use Rattle.rank_model.specs.Verdicts.{no_way_to, no_way_from}
use Rattle.route_ranks.proofs.no_way.no_way_from.Given as goal

-- none is found so far
abbrev pub invariant-loop-to : goal.invariant-loop-to
invariant-loop-to l = no_way_from l.plan l.from ≡ first_from (no_way_to l.plan l.from) l.to (length l.plan.nodes - l.to)

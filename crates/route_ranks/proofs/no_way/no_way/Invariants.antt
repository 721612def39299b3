use Rattle.std.proofs.Common.{◌≡◌, ◌-◌, length}
use Rattle.rank_model.specs.Next.{first_from}
use Rattle.rank_model.specs.Verdicts.{no_way_from, no_way}
use Rattle.route_ranks.proofs.no_way.no_way.Given as goal

-- none is found so far
abbrev pub invariant-loop-from : goal.invariant-loop-from
invariant-loop-from l = no_way l.plan ≡ first_from (no_way_from l.plan) l.from (length l.plan.nodes - l.from)

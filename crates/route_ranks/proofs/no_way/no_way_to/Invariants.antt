use Rattle.std.proofs.Common.{◌≡◌, ◌-◌}
use Rattle.rank_model.specs.Next.{first_from}
use Rattle.rank_model.specs.Verdicts.{no_way_in, no_way_to}
use Rattle.route_ranks.proofs.no_way.no_way_to.Given as goal

-- none is found so far
abbrev pub invariant-loop-net : goal.invariant-loop-net
invariant-loop-net l = no_way_to l.plan l.from l.to ≡ first_from (no_way_in l.plan l.from l.to) l.net (4 - l.net)

use Rattle.std.proofs.Common.{◌≡◌}
use Rattle.rank_model.specs.Verdicts.{goes_on}
use Rattle.route_ranks.proofs.Least.{least}
use Rattle.route_ranks.proofs.no_rank.first_dest.Given as goal

-- the least of the ids so far for which a packet may go on
abbrev pub invariant-loop-bit : goal.invariant-loop-bit
invariant-loop-bit l = l.found ≡ least (goes_on l.plan l.first l.second) l.from l.to l.bit

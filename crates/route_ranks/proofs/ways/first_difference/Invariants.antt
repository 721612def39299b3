use Rattle.std.proofs.Common.{◌≡◌}
use Rattle.net_model.specs.Ways.{first_difference}
use Rattle.route_ranks.proofs.ways.first_difference.Given as goal

-- the ids agree in the bits from here on
abbrev pub invariant-loop-bit : goal.invariant-loop-bit
invariant-loop-bit l = first_difference 16 l.a l.b ≡ first_difference l.bit l.a l.b

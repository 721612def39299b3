use Rattle.std.proofs.Common.{◌≡◌}
use Rattle.std.specs.Prelude.{unwrap_or}
use Rattle.net_model.specs.Ways.{first_difference}
use Rattle.load_maker.proofs.ring.highest_difference.Given as goal

abbrev pub invariant-loop-bit : goal.invariant-loop-bit
invariant-loop-bit l = l.highest ≡ unwrap_or (first_difference l.bit l.a l.b) 0

use Rattle.std.proofs.Common.{refl}
use Rattle.net_model.specs.Ways.{first_difference}
use Rattle.load_maker.proofs.Highest.{highest_here, highest_before}
use Rattle.load_maker.proofs.ring.highest_difference.Goals as goal
use Rattle.load_maker.proofs.ring.highest_difference.Goals.{then-a-bit, else-a-bit}

pub loop-bit-init : goal.loop-bit-init
unfolding first_difference
loop-bit-init c = refl

pub loop-bit-preserved : goal.loop-bit-preserved
loop-bit-preserved c =
    elim c.if-a-bit.branch [
      | then-a-bit w ↦ highest_here c.loop-bit.bit c.args.a c.args.b _ w.if-a-bit.true w.highest-is
      | else-a-bit w ↦ highest_before c.loop-bit.bit c.args.a c.args.b c.loop-bit.highest _ w.if-a-bit.false w.highest-is c.loop-bit.invariant
    ]

use Rattle.std.proofs.Common.{refl, arith}
use Rattle.buffered_ports.proofs.High.{one_more, high_everywhere}
use Rattle.buffered_ports.proofs.levels.high_of.Goals as goal

pub loop-p-preserved : goal.loop-p-preserved
loop-p-preserved c =
    one_more c.loop-p.p c.loop-p.mask c.with_bit-mask.result _ _ (omega (arith, c.loop-p-test.true)) c.with_bit-mask.type_inv c.loop-p.invariant refl c.with_bit-mask.ensures

pub returns : goal.returns
returns c = record { high = λ ports p strobe is. high_everywhere c.loop-p.p c.loop-p.mask c.args.pins.now.level (omega (arith, c.loop-p-test.false, c.told-pins)) c.loop-p.invariant strobe }

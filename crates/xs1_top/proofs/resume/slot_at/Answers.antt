use Rattle.std.proofs.Common.{length, ap, arith}
use Rattle.xs1_top.proofs.Systems.{snap-short}
use Rattle.xs1_top.proofs.resume.slot_at.Goals as goal

pub overflow_cast-result : goal.overflow_cast-result
overflow_cast-result c = omega (arith, snap-short c.args.snap.now c.text.ensures.snap, ap length c.text.ensures.value)

pub overflow_add-result : goal.overflow_add-result
overflow_add-result c = omega (arith, snap-short c.args.snap.now c.text.ensures.snap, ap length c.text.ensures.value)

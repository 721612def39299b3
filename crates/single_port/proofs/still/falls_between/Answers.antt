use Rattle.std.proofs.Common.{arith}
use Rattle.single_port.proofs.Counted.{due_at}
use Rattle.single_port.proofs.still.falls_between.Goals as goal

pub returns : goal.returns
returns c =
    due_at c.args.counter c.args.time _ (omega (arith, c.ranges.counter.fits)) (omega (arith, c.ranges.time.fits)) (omega arith)
    (omega (arith, c.from.ensures)) (omega (arith, c.from.ensures, c.ranges.counter.fits, c.ranges.time.fits))

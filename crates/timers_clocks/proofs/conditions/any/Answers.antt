use Rattle.std.proofs.Common.{arith}
use Rattle.timers_clocks.proofs.AnyCondition.{any_condition}
use Rattle.timers_clocks.proofs.conditions.any.Goals as goal

pub returns : goal.returns
returns c timers long exact =
    any_condition c.args.mask timers (omega (arith, long)) c.ranges.mask.fits exact

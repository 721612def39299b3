use Rattle.std.proofs.Common.{arith}
use Rattle.bit_masks.proofs.OneBit.{exact-set}
use Rattle.xs_model.specs.Record.{TimerRec, unused_timer}
use Rattle.timers_clocks.proofs.conditions.noted.Goals as goal

pub returns : goal.returns
returns c timers long exact =
    exact-set (λ timer. let timer : TimerRec = timer in timer.after) unused_timer 32 c.args.mask _ c.args.n c.args.timer.now timers (omega (arith, long, c.requires)) exact (rw (← c.has_condition.ensures) c.with_bit.ensures)

use Rattle.std.proofs.Common.{rules, false, arith}
use Rattle.timers_clocks.specs.States.{timer_of}
use Rattle.made_lists.proofs.Made.{made_of}
use Rattle.timers_clocks.proofs.timers.Timers.of_state.Goals as goal

pub returns : goal.returns
returns c = record {
  value =
      made_of _ _ timer_of c.args.timers.now c.map-all.result 10 (record { used = false; after = false; value = 0 })
      (omega (arith, c.told-timers)) c.map-all.ensures.items (λ p x y q called. search rules);
}

use Rattle.std.proofs.Common.{rules, false, arith}
use Rattle.timers_clocks.specs.States.{clock_of}
use Rattle.made_lists.proofs.Made.{made_of}
use Rattle.timers_clocks.proofs.clocks.Clocks.of_state.Goals as goal

pub returns : goal.returns
returns c = record {
  value = made_of _ _ clock_of c.args.clocks.now c.map.result 6 (record { on = false; running = false; div = 0 }) (omega (arith, c.told-clocks)) c.map.ensures.items (λ p x y q called. search rules);
}

use Rattle.std.proofs.Common.{rules}
use Rattle.xs_model.specs.Record.{unused_timer}
use Rattle.timers_clocks.specs.States.{timer_state}
use Rattle.made_lists.proofs.Made.{made_of_each}
use Rattle.timers_clocks.proofs.timers.Timers.state.Goals as goal

pub returns : goal.returns
returns c = record {
  value =
      rw (← c.self.view_is) (
      made_of_each _ _ timer_state c.each_ref.result c.self.inside.timers c.map.result 10 unused_timer
      c.self.invariant.0 c.each_ref.ensures.items c.map.ensures.items (λ p r y q called. search rules)
      );
}

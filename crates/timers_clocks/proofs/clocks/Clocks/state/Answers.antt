use Rattle.std.proofs.Common.{rules}
use Rattle.xs_model.specs.Record.{off_clock}
use Rattle.timers_clocks.specs.States.{clock_state}
use Rattle.made_lists.proofs.Made.{made_of_each}
use Rattle.timers_clocks.proofs.clocks.Clocks.state.Goals as goal

pub returns : goal.returns
returns c = record {
  value =
      rw (← c.self.view_is) (
      made_of_each _ _ clock_state c.each_ref.result c.self.inside.blocks c.map.result 6 off_clock
      c.self.invariant c.each_ref.ensures.items c.map.ensures.items (λ p r y q called. search rules)
      );
}

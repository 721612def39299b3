use Rattle.std.proofs.Common.{length, map, ap, ◌∙◌, rules}
use Rattle.xs_model.specs.Record.{not_enabled}
use Rattle.event_unit.specs.States.{enable_state}
use Rattle.made_lists.proofs.Made.{made_of}
use Rattle.event_unit.proofs.events.Events.state.Goals as goal

pub returns : goal.returns
returns c = record {
  chans =
      rw (← c.self.view_is) (
      made_of _ _ enable_state c.entries.result.now c.map-chans.result 32 not_enabled
      (ap length c.entries.ensures.value ∙ c.entries.ensures.count) c.map-chans.ensures.items (λ p x y q called. search rules)
      ∙ ap (map enable_state) c.entries.ensures.value
      );
  timers =
      rw (← c.self.view_is) (
      made_of _ _ enable_state c.entries-2.result.now c.map-timers.result 10 not_enabled
      (ap length c.entries-2.ensures.value ∙ c.entries-2.ensures.count) c.map-timers.ensures.items (λ p x y q called. search rules)
      ∙ ap (map enable_state) c.entries-2.ensures.value
      );
  ports =
      rw (← c.self.view_is) (
      made_of _ _ enable_state c.entries-3.result.now c.map-ports.result 29 not_enabled
      (ap length c.entries-3.ensures.value ∙ c.entries-3.ensures.count) c.map-ports.ensures.items (λ p x y q called. search rules)
      ∙ ap (map enable_state) c.entries-3.ensures.value
      );
}

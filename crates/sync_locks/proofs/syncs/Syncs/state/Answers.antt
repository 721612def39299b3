use Rattle.std.proofs.Common.{rules}
use Rattle.xs_model.specs.Record.{unused_sync, unused_lock}
use Rattle.sync_locks.specs.States.{sync_state, lock_state}
use Rattle.made_lists.proofs.Made.{made_of_each}
use Rattle.sync_locks.proofs.syncs.Syncs.state.Goals as goal

pub returns : goal.returns
returns c = record {
  syncs =
      rw (← c.self.view_is) (
      made_of_each _ _ sync_state c.each_ref.result c.self.inside.syncs c.map-syncs.result 7 unused_sync
      c.self.invariant.0 c.each_ref.ensures.items c.map-syncs.ensures.items (λ p r y q called. search rules)
      );
  locks =
      rw (← c.self.view_is) (
      made_of_each _ _ lock_state c.each_ref-2.result c.self.inside.locks c.map-locks.result 4 unused_lock
      c.self.invariant.1 c.each_ref-2.ensures.items c.map-locks.ensures.items (λ p r y q called. search rules)
      );
}

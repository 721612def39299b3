use Rattle.busy_slots.proofs.Idle.{idle_where_not_busy, not_counted}
use Rattle.busy_slots.proofs.idle_where_not_busy.Goals as goal

pub returns-clause-idle : goal.returns-clause-idle
returns-clause-idle c =
    idle_where_not_busy c.nodes_are_local.ensures.step c.nodes_are_local.ensures.leaves c.links_tell_ahead.ensures.whole c.quiet_slots_only_count.ensures.slot
    c.slot_has_few_events.ensures.first c.slot_has_few_events.ensures.slot

pub returns-clause-count : goal.returns-clause-count
returns-clause-count c = not_counted

use Rattle.quiet_laws.proofs.Slots.{still_stirs_first, other_stirs_now}
use Rattle.quiet_laws.proofs.first_stirring_slot.Goals as goal

pub returns-clause-still : goal.returns-clause-still
returns-clause-still c = still_stirs_first c.first_slots.ensures.alike

pub returns-clause-other : goal.returns-clause-other
returns-clause-other c = other_stirs_now

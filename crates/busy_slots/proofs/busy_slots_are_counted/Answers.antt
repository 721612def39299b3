use Rattle.busy_slots.proofs.Brought.{none_at_start, counted}
use Rattle.busy_slots.proofs.busy_slots_are_counted.Goals as goal

pub returns : goal.returns
returns c = record { start = none_at_start; one = counted }

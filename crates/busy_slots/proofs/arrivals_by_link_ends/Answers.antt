use Rattle.busy_slots.proofs.Brought.{nothing_by_any_end, something_by_one_end, waiting_stays}
use Rattle.busy_slots.proofs.arrivals_by_link_ends.Goals as goal

pub returns : goal.returns
returns c = record { nothing = nothing_by_any_end; something = something_by_one_end; waiting = waiting_stays c.links_tell_ahead.ensures.seen }

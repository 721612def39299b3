use Rattle.round_laws.proofs.Counts.{rounds_by_delay, rounds_without_arcs, no_rounds_for_no_slots, rounds_within_slots}
use Rattle.round_laws.proofs.Clocks.{least_delay_is_least}
use Rattle.round_laws.proofs.rounds_are_few.Goals as goal

pub returns : goal.returns
returns c = record { by_delay = rounds_by_delay; without_arcs = rounds_without_arcs; no_slots = no_rounds_for_no_slots; within = rounds_within_slots; least = least_delay_is_least }

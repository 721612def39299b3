use Rattle.std.proofs.Common.{refl}
use Rattle.worked_runs.proofs.Computes.{computes}
use Rattle.worked_runs.proofs.busy.worked_busy_slots.Goals as goal

pub returns-clause-slots : goal.returns-clause-slots
unfolding computes
returns-clause-slots c = record { alone = refl; sends = refl; takes = refl; sending = refl; taking = refl }

pub returns-clause-still : goal.returns-clause-still
returns-clause-still c = record { first = refl; samples = refl; puts_out = refl; shifts = refl; off = refl; wants = refl }

pub returns-clause-transfers : goal.returns-clause-transfers
returns-clause-transfers c = record { at_once = refl; in_time = refl; goes_round = refl; stopped = refl; divided = refl; empty = refl }

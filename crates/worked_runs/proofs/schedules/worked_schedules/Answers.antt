use Rattle.std.proofs.Common.{refl}
use Rattle.worked_runs.proofs.Computes.{computes}
use Rattle.worked_runs.proofs.schedules.worked_schedules.Goals as goal

pub returns-clause-pair : goal.returns-clause-pair
unfolding computes
returns-clause-pair c = record { at_start = refl; taking_turns = refl; cut = refl; nothing_heard = refl; sent_twice = refl }

pub returns-clause-ring : goal.returns-clause-ring
unfolding computes
returns-clause-ring c = record { first = refl; second = refl; third = refl }

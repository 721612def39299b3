use Rattle.std.proofs.Common.{refl}
use Rattle.worked_runs.proofs.Computes.{computes}
use Rattle.worked_runs.proofs.plays.worked_plays.Goals as goal

pub returns-clause-steps : goal.returns-clause-steps
unfolding computes
returns-clause-steps c = record { no_step = refl; turns = refl; cut = refl; nothing_heard = refl; long_turns = refl }

pub returns-clause-texts : goal.returns-clause-texts
unfolding computes
returns-clause-texts c = record { no_step = refl; turns = refl; nothing_heard = refl; long_turns = refl; by_number = refl }

use Rattle.std.proofs.Common.{refl}
use Rattle.worked_runs.proofs.Computes.{computes}
use Rattle.worked_runs.proofs.traces.worked_traces.Goals as goal

pub returns-clause-order : goal.returns-clause-order
unfolding computes
returns-clause-order c = record { in_order = refl; of_three = refl; some_left_out = refl; none_left_out = refl }

pub returns-clause-traces : goal.returns-clause-traces
unfolding computes
returns-clause-traces c = record { delivered = refl; cut = refl; lost = refl; halted = refl }

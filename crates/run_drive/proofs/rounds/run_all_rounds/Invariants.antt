use Rattle.std.proofs.Common.{◌-◌}
use Rattle.round_laws.specs.Rounds.{rounds}
use Rattle.run_drive.proofs.Passes.{IsOnTheWay}
use Rattle.run_drive.proofs.rounds.run_all_rounds.Given as goal

abbrev pub invariant-loop-alloc : goal.invariant-loop-alloc
invariant-loop-alloc g l = IsOnTheWay l.fn.plan.value l.fn.limit l.run

abbrev pub decreases-loop-alloc : goal.decreases-loop-alloc
decreases-loop-alloc g l = rounds l.fn.plan.value l.fn.limit - l.run.passes

use Rattle.std.specs.List.{AllZip}
use Rattle.finished_runs.proofs.AtLimit.{KeepsOf}
use Rattle.finished_runs.proofs.runners.Runners.into_events.Given as goal

abbrev pub invariant-loop-runner : goal.invariant-loop-runner
invariant-loop-runner l = AllZip KeepsOf l.yielded l.all.items

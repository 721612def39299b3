-- How a run at its limit is seen, by what it holds.
use Rattle.std.specs.Prelude.{true, false}
use Rattle.finished_runs.specs.declared.run.Nodes.{Nodes}
use Rattle.finished_runs.specs.declared.run.Nodes.TheVariants as nodes
use Rattle.finished_runs.specs.Limit.{FinishedRunRec}

abbrev pub run_of : Nodes → FinishedRunRec
run_of (nodes.Together run) = record { plan = run.plan; limit = run.limit; apart = false }
run_of (nodes.Runners run) = record { plan = run.plan; limit = run.limit; apart = true }

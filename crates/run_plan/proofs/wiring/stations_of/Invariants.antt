use Rattle.std.proofs.Common.{take}
use Rattle.run_plan.specs.Starts.{AllStart}
use Rattle.run_plan.proofs.wiring.stations_of.Given as goal

abbrev pub invariant-loop-n : goal.invariant-loop-n
invariant-loop-n l = record { start : AllStart l.plan 0 (take l.n l.plan.nodes) l.stations.items }

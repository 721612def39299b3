use Rattle.std.proofs.Common.{take}
use Rattle.run_plan.specs.Begins.{AllBegin, StationBegins}
use Rattle.run_plan.proofs.begun.stations_by.Given as goal

abbrev pub invariant-loop-n : goal.invariant-loop-n
invariant-loop-n l = record { begin : AllBegin (StationBegins l.plan l.snap.slot) 0 (take l.n l.plan.nodes) (take l.n l.snap.nodes.items) l.stations.items }

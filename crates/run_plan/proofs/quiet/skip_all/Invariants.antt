use Rattle.run_plan.specs.Quiet.{StationSkips}
use Rattle.run_plan.specs.Passes.{Through}
use Rattle.run_plan.proofs.quiet.skip_all.Given as goal

abbrev pub invariant-loop-station : goal.invariant-loop-station
invariant-loop-station l = record { through : Through (StationSkips l.from l.to) l.station-index l.initial.stations l.stations }

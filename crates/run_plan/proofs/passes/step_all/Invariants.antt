use Rattle.run_plan.specs.Stations.{StationSteps}
use Rattle.run_plan.specs.Passes.{Through}
use Rattle.run_plan.proofs.passes.step_all.Given as goal

abbrev pub invariant-loop-station : goal.invariant-loop-station
invariant-loop-station l = record { through : Through (StationSteps l.slot l.tracks) l.station-index l.initial.stations l.stations }

use Rattle.run_plan.specs.Stations.{StationSteps}
use Rattle.run_plan.specs.Passes.{Through}
use Rattle.run_plan.specs.Told.{IsStationTold}
use Rattle.run_plan.proofs.Through.{Filled}
use Rattle.run_plan.proofs.slot_told.step_all_told.Given as goal

abbrev pub invariant-loop-n : goal.invariant-loop-n
invariant-loop-n l = record {
  through : Through (StationSteps l.slot l.tracks) l.n l.initial.stations l.stations;
  filled : Filled (IsStationTold l.slot l.tracks) l.n l.initial.stations l.told;
}

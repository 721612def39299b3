use Rattle.std.proofs.Common.{length, arith}
use Rattle.run_plan.specs.Stations.{IsStation, StationSteps}
use Rattle.run_plan.specs.Passes.{HasRoomForEvents}
use Rattle.run_plan.proofs.Through.{through-at, through-more, through-all}
use Rattle.run_plan.proofs.passes.step_all.Goals as goal

pub step-requires-clause-station : goal.step-requires-clause-station
step-requires-clause-station c =
    let IsReady = IsStation c.args.slot (length c.args.tracks.now) in
    through-at (StationSteps c.args.slot c.args.tracks.now) IsReady c.loop-station.station-index c.args.stations.now c.loop-station.stations c.station-item.result c.loop-station.invariant.through c.requires.stations (omega arith)

pub step-requires-clause-room : goal.step-requires-clause-room
step-requires-clause-room c =
    through-at (StationSteps c.args.slot c.args.tracks.now) HasRoomForEvents c.loop-station.station-index c.args.stations.now c.loop-station.stations c.station-item.result c.loop-station.invariant.through c.requires.room (omega arith)

pub loop-station-preserved : goal.loop-station-preserved
loop-station-preserved c = record {
  through =
      through-more (StationSteps c.args.slot c.args.tracks.now) c.loop-station.station-index c.args.stations.now c.loop-station.stations c.station-item.result c.step.new.self
      c.loop-station.invariant.through (omega arith) c.step.ensures.steps;
}

pub returns : goal.returns
returns c = record {
  steps = through-all (StationSteps c.args.slot c.args.tracks.now) c.loop-station.station-index c.args.stations.now c.loop-station.stations c.loop-station.invariant.through (omega arith);
}

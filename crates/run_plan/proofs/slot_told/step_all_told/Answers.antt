use Rattle.std.proofs.Common.{length, subst, arith}
use Rattle.run_plan.specs.declared.station.Station.{Station}
use Rattle.run_plan.specs.Stations.{IsStation, StationSteps}
use Rattle.run_plan.specs.Passes.{HasRoomForEvents}
use Rattle.run_plan.specs.Told.{IsStationTold}
use Rattle.run_plan.proofs.Through.{through-at, through-here, through-length, through-more, through-all, filled-more, filled-all}
use Rattle.run_plan.proofs.slot_told.step_all_told.Goals as goal

pub step_told-requires-clause-station : goal.step_told-requires-clause-station
step_told-requires-clause-station c =
    let IsReady = IsStation c.args.slot (length c.args.tracks.now) in
    through-at (StationSteps c.args.slot c.args.tracks.now) IsReady c.loop-n.n c.args.stations.now c.loop-n.stations c.index-stations-n.result c.loop-n.invariant.through c.requires.stations (omega arith)

pub step_told-requires-clause-room : goal.step_told-requires-clause-room
step_told-requires-clause-room c =
    through-at (StationSteps c.args.slot c.args.tracks.now) HasRoomForEvents c.loop-n.n c.args.stations.now c.loop-n.stations c.index-stations-n.result c.loop-n.invariant.through c.requires.room (omega arith)

pub loop-n-preserved : goal.loop-n-preserved
loop-n-preserved c =
    let Steps = StationSteps c.args.slot c.args.tracks.now in
    let stations = c.args.stations.now in
    let n = c.loop-n.n in
    let here = through-here Steps n stations c.loop-n.stations c.index-stations-n.result c.loop-n.invariant.through in
    let long = through-length Steps n stations c.loop-n.stations c.loop-n.invariant.through in
    record {
      through = through-more Steps n stations c.loop-n.stations c.index-stations-n.result c.step_told.new.self c.loop-n.invariant.through (omega arith) c.step_told.ensures.steps;
      filled =
          filled-more (IsStationTold c.args.slot c.args.tracks.now) n stations c.loop-n.told c.index-stations-n.result c.step_told.result c.loop-n.invariant.filled (omega (arith, long))
          (subst (λ (s : Station). IsStationTold c.args.slot c.args.tracks.now s c.step_told.result) here c.step_told.ensures.told);
    }

pub returns : goal.returns
returns c = record {
  steps = through-all (StationSteps c.args.slot c.args.tracks.now) c.loop-n.n c.args.stations.now c.loop-n.stations c.loop-n.invariant.through (omega arith);
  told =
      filled-all (IsStationTold c.args.slot c.args.tracks.now) c.loop-n.n c.args.stations.now c.loop-n.told c.loop-n.invariant.filled
      (omega (arith, through-length (StationSteps c.args.slot c.args.tracks.now) c.loop-n.n c.args.stations.now c.loop-n.stations c.loop-n.invariant.through));
}

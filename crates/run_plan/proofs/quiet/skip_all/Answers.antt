use Rattle.std.proofs.Common.{arith}
use Rattle.run_plan.specs.Quiet.{MaySkip, StationSkips}
use Rattle.run_plan.proofs.Through.{through-at, through-more, through-all}
use Rattle.run_plan.proofs.quiet.skip_all.Goals as goal

pub skip-requires-clause-quiet : goal.skip-requires-clause-quiet
skip-requires-clause-quiet c =
    through-at (StationSkips c.args.from c.args.to) (MaySkip c.args.from c.args.to) c.loop-station.station-index c.args.stations.now c.loop-station.stations c.station-item.result
    c.loop-station.invariant.through c.requires.stations (omega arith)

pub loop-station-preserved : goal.loop-station-preserved
loop-station-preserved c = record {
  through =
      through-more (StationSkips c.args.from c.args.to) c.loop-station.station-index c.args.stations.now c.loop-station.stations c.station-item.result c.skip.new.self
      c.loop-station.invariant.through (omega arith) c.skip.ensures.skips;
}

pub returns : goal.returns
returns c = record {
  skips = through-all (StationSkips c.args.from c.args.to) c.loop-station.station-index c.args.stations.now c.loop-station.stations c.loop-station.invariant.through (omega arith);
}

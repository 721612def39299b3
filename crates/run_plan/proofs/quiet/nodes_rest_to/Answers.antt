use Rattle.std.proofs.Common.{◌≤◌, arith}
use Rattle.core_step.proofs.Quiet.{sooner}
use Rattle.run_plan.specs.Quiet.{RestsTo}
use Rattle.run_plan.proofs.Through.{first-item}
use Rattle.run_plan.proofs.Skipped.{rest_sooner}
use Rattle.run_plan.proofs.quiet.nodes_rest_to.Goals as goal

pub loop-station-preserved : goal.loop-station-preserved
loop-station-preserved c =
    let from = c.args.from in
    let until = c.rests_to.result in
    let to = c.min-to.result in
    let i = c.loop-station.station-index in
    let within : to ≤ c.loop-station.to = omega (arith, c.min-to.ensures) in
    let here : to ≤ until = omega (arith, c.min-to.ensures) in
    let so_far = rest_sooner from to c.loop-station.to within _ c.loop-station.invariant.quiet in
    let rests = sooner c.station-item.result.seat.core from to until here (c.rests_to.ensures.quiet (omega (arith, c.if-to-from.false, here))) in
    record {
      within = omega (arith, within, c.loop-station.invariant.within);
      quiet = first-item (RestsTo from to) i c.args.stations.now c.station-item.result so_far (omega arith) c.station-item.is rests;
    }

use Rattle.std.proofs.Common.{◌≤◌, subst, sym, arith}
use Rattle.run_plan.specs.Passes.{IsShownAt}
use Rattle.run_plan.specs.Steady.{IsSteadyTo}
use Rattle.run_plan.proofs.Through.{all-at, first-item, first-all}
use Rattle.run_plan.proofs.Steady.{steady_sooner}
use Rattle.run_plan.proofs.quiet.steady_to.Goals as goal

pub loop-station-preserved : goal.loop-station-preserved
loop-station-preserved c =
    let to = c.min-to.result in
    let i = c.loop-station.station-index in
    let stations = c.args.stations.now in
    let within : to ≤ c.loop-station.to = omega (arith, c.min-to.ensures) in
    let next : to ≤ c.station-item.result.pins.next = omega (arith, c.min-to.ensures, c.next_change.ensures) in
    record {
      within = omega (arith, within, c.loop-station.invariant.within);
      steady = first-item (IsSteadyTo to) i stations c.station-item.result (steady_sooner to c.loop-station.to within _ c.loop-station.invariant.steady) (omega arith) c.station-item.is next;
      on = λ slot below shown.
          let here = subst (IsShownAt slot) (sym c.station-item.is) (all-at (IsShownAt slot) stations i c.station-item.result shown (omega arith)) in
          omega (arith, c.min-to.ensures, c.next_change.ensures, here.next, c.loop-station.invariant.on slot below shown);
    }

pub returns : goal.returns
returns c = record {
  within = c.loop-station.invariant.within;
  steady = first-all (IsSteadyTo c.loop-station.to) c.loop-station.station-index c.args.stations.now c.loop-station.invariant.steady (omega arith);
  on = c.loop-station.invariant.on;
}

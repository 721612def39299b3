use Rattle.std.proofs.Common.{arith}
use Rattle.run_plan.proofs.wiring.station_of.Goals as goal

pub returns : goal.returns
returns c = record {
  start = λ node here. record {
    serves = record { plays = c.in_ok-seat.ensures.plays node here; pins = c.in_ok-pins.ensures.pins; incoming = c.of-3.ensures.links };
    ready = record { here = c.in_ok-seat.ensures.ready; shown = c.in_ok-pins.ensures.pins.shown; noted = λ less. absurd (omega (arith, less, c.in_ok-pins.ensures.due)); incoming = c.of-3.ensures.below };
    low = c.in_ok-pins.ensures.levels;
  };
}

use Rattle.node_seats.proofs.Seats.{steps}
use Rattle.node_seats.proofs.seat.Seat.step.Goals as goal

pub returns : goal.returns
returns c = record {
  steps = steps c.args.slot c.args.arrivals.now c.args.pins.now c.args.self.now _ _ c.slot_where.ensures.passes c.requires.seat c.events.ensures.value c.events.ensures.bound c.keep.ensures.keeps c.keep.ensures.more;
}

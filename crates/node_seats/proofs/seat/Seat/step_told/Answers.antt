use Rattle.node_seats.proofs.Seats.{steps}
use Rattle.node_seats.proofs.seat.Seat.step_told.Goals as goal

pub returns : goal.returns
returns c = record {
  steps = steps c.args.slot c.args.arrivals.now c.args.pins.now c.args.self.now _ _ c.slot_told-told.ensures.passes c.requires.seat c.events-given.ensures.value c.events-given.ensures.bound c.keep.ensures.keeps c.keep.ensures.more;
  told = c.slot_told-told.ensures.told;
}

use Rattle.answer_model.proofs.Modes.{free_is_usual, serial_alike, rounds_alike, serial_waits_not, rounds_wait_not}
use Rattle.answer_model.proofs.modes_are_alike.Goals as goal

pub returns : goal.returns
returns c = record {
  free = free_is_usual;
  serial = serial_alike;
  rounds = rounds_alike;
  serial_goes_on = serial_waits_not;
  rounds_go_on = rounds_wait_not;
}

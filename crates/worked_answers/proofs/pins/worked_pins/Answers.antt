use Rattle.std.proofs.Common.{refl}
use Rattle.xs_base.specs.Ids.{port_among}
use Rattle.worked_answers.proofs.Computes.{computes}
use Rattle.worked_answers.proofs.pins.worked_pins.Goals as goal

pub returns : goal.returns
unfolding computes port_among
returns c = record {
  no_lines = refl;
  one_line = refl;
  seen = refl;
  seen_later = refl;
  not_yet = refl;
  bad_line = refl;
  slot_falls = refl;
  no_such_port = refl;
  value_too_wide = refl;
  no_such_node = refl;
  pin_given_twice = refl;
  check_refuses = refl;
  check_takes = refl;
  source_first = refl;
  frame_first = refl;
  not_ended = refl;
}

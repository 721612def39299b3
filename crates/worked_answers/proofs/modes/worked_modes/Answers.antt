use Rattle.std.proofs.Common.{refl}
use Rattle.xs_base.specs.Ids.{port_among}
use Rattle.worked_answers.proofs.Computes.{computes}
use Rattle.worked_answers.proofs.modes.worked_modes.Goals as goal

pub returns-clause-forms : goal.returns-clause-forms
unfolding computes
returns-clause-forms c = record {
  usual = refl;
  free = refl;
  serial = refl;
  rounds = refl;
  most_slots = refl;
  most_usual_slots = refl;
  most_free_slots = refl;
  most_serial_slots = refl;
  most_play_slots = refl;
  ten_digits = refl;
  too_many_slots = refl;
  too_many_usual_slots = refl;
  too_many_free_slots = refl;
  too_many_serial_slots = refl;
  too_many_play_slots = refl;
  eleven_digits = refl;
  no_slots = refl;
  empty_slots = refl;
  another_case = refl;
  one_round = refl;
  a_blank = refl;
  two_modes = refl;
  another_order = refl;
  play_has_no_mode = refl;
  make_has_no_mode = refl;
  check_has_no_mode = refl;
}

pub returns-clause-waits : goal.returns-clause-waits
unfolding computes
returns-clause-waits c = record {
  usual = refl;
  free = refl;
  serial = refl;
  rounds = refl;
  no_form = refl;
  rounds_ask = refl;
  rounds_take = refl;
}

pub returns-clause-rounds : goal.returns-clause-rounds
unfolding computes port_among
returns-clause-rounds c = record {
  no_slots = refl;
  no_nodes = refl;
  pair = refl;
  pair_cut = refl;
  no_input = refl;
  bad_source = refl;
  bad_script = refl;
  too_many_slots = refl;
}

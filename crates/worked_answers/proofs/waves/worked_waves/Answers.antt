use Rattle.std.proofs.Common.{refl}
use Rattle.worked_answers.proofs.Computes.{computes}
use Rattle.worked_answers.proofs.waves.worked_waves.Goals as goal

pub returns-clause-forms : goal.returns-clause-forms
unfolding computes
returns-clause-forms c = record {
  wave = refl;
  no_slots = refl;
  most = refl;
  one_more = refl;
  pins = refl;
  last_node = refl;
  no_node = refl;
  leading_zero = refl;
  two_zeros = refl;
  no_digits = refl;
  lone_word = refl;
  another_case = refl;
  word_more = refl;
  goes_on = refl;
  asks = refl;
  takes = refl;
  most_bytes = refl;
  reads = refl;
}

pub returns-clause-waves : goal.returns-clause-waves
unfolding computes
returns-clause-waves c = record {
  nothing = refl;
  one_slot = refl;
  not_yet = refl;
  driven = refl;
  script = refl;
  no_nodes = refl;
  refused_frame = refl;
  refused_source = refl;
  refused_script = refl;
}

pub returns-clause-pins : goal.returns-clause-pins
unfolding computes
returns-clause-pins c = record {
  nothing = refl;
  one_slot = refl;
  driven = refl;
  again = refl;
  no_such_node = refl;
  no_node_at_all = refl;
  both = refl;
  empty = refl;
  not_declared = refl;
  no_slot = refl;
  empty_line = refl;
  one_pin_left_out = refl;
  no_end = refl;
  empty_slot = refl;
  leading_zero = refl;
  value_too_wide = refl;
  value_with_zeros = refl;
  vector_of_one_bit = refl;
  falling_pin = refl;
  same_pin = refl;
  pin_of_no_node = refl;
  same_slot = refl;
  last_slot = refl;
  change_in_last_slot = refl;
  slot_too_great = refl;
}

use Rattle.std.proofs.Common.{refl}
use Rattle.worked_answers.proofs.Computes.{computes}
use Rattle.worked_answers.proofs.answers.worked_answers.Goals as goal

pub returns-clause-answers : goal.returns-clause-answers
unfolding computes
returns-clause-answers c = record {
  nothing = refl;
  sum = refl;
  before_the_store = refl;
  no_code = refl;
  countdown = refl;
  countdown_cut = refl;
  bad_address = refl;
  serial = refl;
  no_words = refl;
  one_word_more = refl;
  other_case = refl;
  free = refl;
  rounds = refl;
  free_without_slots = refl;
  no_number = refl;
  number_too_great = refl;
  number_of_eleven_digits = refl;
  greatest = refl;
  too_many_slots = refl;
  eleven_digits = refl;
  leading_zeros = refl;
  no_input = refl;
  other_node = refl;
  open_section = refl;
  comments = refl;
  unknown_name = refl;
  wrong_shape = refl;
  no_number_of_bits = refl;
  label_twice = refl;
  no_such_label = refl;
  two_labels = refl;
  too_wide = refl;
  no_nodes = refl;
}

pub returns-clause-checks : goal.returns-clause-checks
unfolding computes
returns-clause-checks c = record {
  no_nodes = refl;
  nothing = refl;
  sum = refl;
  two_nodes = refl;
  labels = refl;
  sections = refl;
  names_in_brackets = refl;
  port_rows = refl;
  least_line = refl;
  wrong_shape = refl;
  least_node = refl;
  no_source = refl;
}

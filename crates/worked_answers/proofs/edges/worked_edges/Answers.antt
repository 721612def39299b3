use Rattle.std.proofs.Common.{refl}
use Rattle.worked_answers.proofs.Computes.{computes}
use Rattle.worked_answers.proofs.edges.worked_edges.Goals as goal

pub returns-clause-frames : goal.returns-clause-frames
unfolding computes
returns-clause-frames c = record {
  end_with_comment = refl;
  bad_byte_after_end_of_faulty_source = refl;
  bad_byte_after_section = refl;
  bad_byte_before_header = refl;
  two_returns = refl;
  return_at_the_end = refl;
  returns_before_feeds = refl;
  no_last_feed = refl;
  greatest_numbers = refl;
  node_100 = refl;
  id_65536 = refl;
  binary_number = refl;
  upper_case_prefix = refl;
  header_01 = refl;
  second_edition = refl;
  header_02 = refl;
  third_edition = refl;
  node_17 = refl;
  own_link = refl;
  link_end_twice = refl;
  line_after_section = refl;
  comments_in_words = refl;
  leading_zeros = refl;
}

pub returns-clause-sources : goal.returns-clause-sources
unfolding computes
returns-clause-sources c = record {
  end_as_label = refl;
  end_and_a_blank_colon = refl;
  bad_byte_in_a_comment = refl;
  bad_byte_beside_end = refl;
  reserved_register = refl;
  reserved_t = refl;
  r12_is_no_register = refl;
  instruction_name_as_label = refl;
  lone_colon = refl;
  comma_too_many = refl;
  upper_case = refl;
  text_line = refl;
  directive_name_as_label = refl;
  sp_in_add = refl;
  sp_in_ldc = refl;
  lone_slash = refl;
}

pub returns-clause-runs : goal.returns-clause-runs
unfolding computes
returns-clause-runs c = record {
  binary_numbers = refl;
  label_at_the_end = refl;
  main_at_the_end = refl;
  main_later = refl;
  named_registers = refl;
  address_wraps = refl;
  unaligned_address = refl;
  branches_and_eq = refl;
  last_word = refl;
  no_slots = refl;
  signed_slots = refl;
  empty_slots = refl;
  most_slots = refl;
  second_waits = refl;
  second_waits_cut = refl;
  first_waits_not = refl;
  first_waits_not_cut = refl;
}

use Rattle.std.proofs.Common.{refl}
use Rattle.xs_base.specs.Ids.{port_among}
use Rattle.worked_answers.proofs.Computes.{computes}
use Rattle.worked_answers.proofs.plays.worked_plays.Goals as goal

pub returns : goal.returns
unfolding computes port_among
returns c = record {
  in_turns = refl;
  in_more_turns = refl;
  limit_of_3 = refl;
  blocked = refl;
  by_number = refl;
  no_section = refl;
  no_steps = refl;
  no_nodes = refl;
  most_slots = refl;
  leading_zeros = refl;
  no_slots = refl;
  a_mode = refl;
  too_many_slots = refl;
  signed_slots = refl;
  empty_slots = refl;
  eleven_digits = refl;
  other_case = refl;
  no_input = refl;
  bad_step = refl;
  no_such_link_end = refl;
  bad_source = refl;
  bad_script = refl;
}

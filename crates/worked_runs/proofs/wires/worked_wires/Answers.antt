use Rattle.std.proofs.Common.{refl}
use Rattle.worked_runs.proofs.Computes.{computes}
use Rattle.worked_runs.proofs.wires.worked_wires.Goals as goal

pub returns-clause-arcs : goal.returns-clause-arcs
unfolding computes
returns-clause-arcs c = record {
  all = refl;
  count = refl;
  first_leaves = refl;
  second_leaves = refl;
  no_third_leaves = refl;
  none_comes = refl;
  third_leaves = refl;
  no_second_leaves = refl;
  first_comes = refl;
  fourth_comes = refl;
  no_third_comes = refl;
  fourth_leaves = refl;
  second_comes = refl;
  third_comes = refl;
  link_leaves = refl;
  link_comes = refl;
  no_link_leaves = refl;
  gaps = refl;
  last_link_delay = refl;
  first_wire_delay = refl;
  third_wire_delay = refl;
  last_wire_delay = refl;
  wire_gap = refl;
  to_4b = refl;
  to_4a = refl;
  to_4c = refl;
  to_1b = refl;
  not_to_a_source = refl;
  not_to_4a = refl;
  not_to_1a = refl;
}

pub returns-clause-pins : goal.returns-clause-pins
unfolding computes
returns-clause-pins c = record {
  before = refl;
  first = refl;
  still_first = refl;
  second = refl;
  stays = refl;
  other_before = refl;
  other_first = refl;
  other_still_first = refl;
  other_second = refl;
  short_before = refl;
  short = refl;
  short_stays = refl;
  long_before = refl;
  long = refl;
  script_before = refl;
  script = refl;
  source_pin = refl;
  neither = refl;
  no_tokens = refl;
  no_credits = refl;
}

pub returns-clause-told : goal.returns-clause-told
unfolding computes
returns-clause-told c = record {
  driven = refl;
  next_port = refl;
  risen = refl;
  fallen = refl;
  another = refl;
  same = refl;
  still_none = refl;
}

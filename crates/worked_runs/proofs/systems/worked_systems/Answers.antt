use Rattle.std.proofs.Common.{refl}
use Rattle.worked_runs.proofs.Computes.{computes}
use Rattle.worked_runs.proofs.systems.worked_systems.Goals as goal

pub returns-clause-small : goal.returns-clause-small
unfolding computes
returns-clause-small c = record {
  apart_events = refl;
  apart_histories = refl;
  apart_after_4 = refl;
  apart_after_5 = refl;
  joined_histories = refl;
}

pub returns-clause-pair : goal.returns-clause-pair
unfolding computes
returns-clause-pair c = record {
  nothing_sent = refl;
  before_arrival = refl;
  first_credit = refl;
  histories = refl;
  first_slots = refl;
  later_slots = refl;
  way_back = refl;
  not_delivered = refl;
  events = refl;
  waits = refl;
  goes_on = refl;
}

pub returns-clause-order : goal.returns-clause-order
returns-clause-order c = record { token_first = refl; other_end = refl }

pub returns-clause-lost : goal.returns-clause-lost
unfolding computes
returns-clause-lost c = record { events = refl; not_yet = refl; histories = refl }

pub returns-clause-on_its_way : goal.returns-clause-on_its_way
unfolding computes
returns-clause-on_its_way c = record { histories = refl; events = refl; not_delivered = refl }

pub returns-clause-pins : goal.returns-clause-pins
returns-clause-pins c = record { before = refl; at = refl; next_port = refl; first_node = refl }

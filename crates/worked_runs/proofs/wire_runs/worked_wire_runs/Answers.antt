use Rattle.std.proofs.Common.{refl}
use Rattle.worked_runs.proofs.Computes.{computes}
use Rattle.worked_runs.proofs.wire_runs.worked_wire_runs.Goals as goal

pub returns-clause-delays : goal.returns-clause-delays
unfolding computes
returns-clause-delays c = record {
  not_yet_told = refl;
  told = refl;
  histories = refl;
  own_slot = refl;
  slots_before = refl;
  slots_after = refl;
  events = refl;
  histories_11 = refl;
  before_7 = refl;
  after_7 = refl;
  stays = refl;
  next_pin = refl;
  not_back = refl;
  before_9 = refl;
  after_9 = refl;
  before_10 = refl;
  after_10 = refl;
  before_11 = refl;
  after_11 = refl;
  seen_7 = refl;
  seen_9 = refl;
  seen_10 = refl;
  not_stored_10 = refl;
  stored_10 = refl;
  not_stored_11 = refl;
  stored_11 = refl;
  own_word = refl;
  other_word = refl;
  other_none = refl;
}

pub returns-clause-script : goal.returns-clause-script
unfolding computes
returns-clause-script c = record {
  at_first = refl;
  before = refl;
  after = refl;
  next_pin = refl;
  not_stored = refl;
  stored = refl;
}

pub returns-clause-told : goal.returns-clause-told
unfolding computes
returns-clause-told c = record {
  zero = refl;
  zero_events = refl;
  off = refl;
  off_events = refl;
  off_before = refl;
  off_comes = refl;
  again = refl;
  again_events = refl;
  beats = refl;
  let_go_later = refl;
  let_go_later_events = refl;
  let_go_at_once = refl;
  let_go_at_once_events = refl;
}

pub returns-clause-sampled : goal.returns-clause-sampled
unfolding computes
returns-clause-sampled c = record {
  not_stored_10 = refl;
  stored_10 = refl;
  not_stored_11 = refl;
  stored_11 = refl;
  not_strobed_21 = refl;
  strobed_21 = refl;
  not_strobed_22 = refl;
  strobed_22 = refl;
}

pub returns-clause-two : goal.returns-clause-two
unfolding computes
returns-clause-two c = record {
  histories = refl;
  first_before = refl;
  first = refl;
  second_before = refl;
  second = refl;
}

pub returns-clause-back : goal.returns-clause-back
unfolding computes
returns-clause-back c = record {
  not_handed_on = refl;
  shows = refl;
  shown_nothing = refl;
  own_level = refl;
  histories = refl;
  still_comes = refl;
  shows_own = refl;
  stored = refl;
  answer = refl;
  first_shows_own = refl;
}

pub returns-clause-in_loop : goal.returns-clause-in_loop
unfolding computes
returns-clause-in_loop c = record {
  next_look = refl;
  look_after = refl;
}

use Rattle.std.proofs.Common.{refl}
use Rattle.worked_machine.proofs.Computes.{computes}
use Rattle.worked_machine.proofs.waits.worked_waits.Goals as goal

pub returns-clause-waits : goal.returns-clause-waits
unfolding computes
returns-clause-waits c = record {
  timer_after = refl;
  timer_equal = refl;
  timer_before = refl;
  timer_wrapped = refl;
  timer_half = refl;
  timer_less_than_half = refl;
  timer_next_step = refl;
  timer_without = refl;
  full = refl;
  not_full = refl;
  empty = refl;
  not_empty = refl;
  idle = refl;
  idle_input = refl;
  shifts = refl;
  transfers = refl;
  free_lock = refl;
  owned_lock = refl;
  slaves_in = refl;
  slave_goes = refl;
  slave_halted = refl;
  slave_paused = refl;
  no_slaves = refl;
  choice = refl;
  room = refl;
  no_room = refl;
  four = refl;
  three = refl;
  control_third = refl;
}

pub returns-clause-things : goal.returns-clause-things
unfolding computes
returns-clause-things c = record {
  port = refl;
  port_empty = refl;
  other_port = refl;
  timer = refl;
  other_timer = refl;
  timer_and_port = refl;
  counts = refl;
  room_counts = refl;
  sides = refl;
  locks = refl;
  slaves = refl;
  choices = refl;
  dividers = refl;
  divider_and_lock = refl;
  timer_and_divider = refl;
}

pub returns-clause-divider : goal.returns-clause-divider
unfolding computes
returns-clause-divider c = record {
  same_slot = refl;
  slot_39 = refl;
  slot_40 = refl;
  slot_41 = refl;
  never = refl;
  in_slot_0 = refl;
  after_slot_0 = refl;
  waits = refl;
  issuers = refl;
  goes_on = refl;
  other_waits_on = refl;
  second = refl;
  issue = refl;
  last_issue = refl;
  got_thread = refl;
}

pub returns-clause-levels : goal.returns-clause-levels
unfolding computes
returns-clause-levels c = record {
  driven = refl;
  driven_low = refl;
}

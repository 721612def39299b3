use Rattle.std.proofs.Common.{refl}
use Rattle.worked_machine.proofs.Computes.{computes}
use Rattle.worked_machine.proofs.slots.worked_slots.Goals as goal

pub returns-clause-issues : goal.returns-clause-issues
unfolding computes
returns-clause-issues c = record {
  threads = refl;
  last = refl;
  no_event = refl;
  rests_in_slot_1 = refl;
  rests_in_slot_2 = refl;
  rests_in_slot_3 = refl;
  next = refl;
  last_next = refl;
  two_threads = refl;
  second_thread = refl;
  turns = refl;
  pause_over = refl;
  pause_for_token = refl;
  pause_for_event = refl;
  no_operation = refl;
}

pub returns-clause-traps : goal.returns-clause-traps
unfolding computes
returns-clause-traps c = record {
  no_code = refl;
  no_code_events = refl;
  halted_stays = refl;
  bad_load = refl;
  bad_load_events = refl;
  bad_store = refl;
  bad_store_events = refl;
  unaligned = refl;
  below = refl;
  handler = refl;
  handler_event = refl;
  handler_goes_on = refl;
  between = refl;
  in_slot_4 = refl;
}

pub returns-clause-end : goal.returns-clause-end
unfolding computes
returns-clause-end c = record {
  free = refl;
  no_event = refl;
  stays = refl;
  levels = refl;
  slaves = refl;
  first_slave = refl;
}

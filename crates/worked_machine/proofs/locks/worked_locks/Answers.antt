use Rattle.std.proofs.Common.{refl}
use Rattle.worked_machine.proofs.Computes.{computes}
use Rattle.worked_machine.proofs.locks.worked_locks.Goals as goal

pub returns : goal.returns
unfolding computes
returns c = record {
  getr = record {
    got = refl;
    last_got = refl;
    none_free = refl;
    stays = refl;
    waits = refl;
    own = refl;
    still_owned = refl;
  };
  claim = record {
    claimed = refl;
    last_claimed = refl;
    waits = refl;
    second_waits = refl;
    own = refl;
    refused = record {
      unused = refl;
      number_4 = refl;
      upper_half = refl;
      upper_half_of_own = refl;
      nothing = refl;
      port = refl;
      timer = refl;
      unused_chan = refl;
      sync = refl;
      thread = refl;
      clock = refl;
    };
    left_by_its_owner = refl;
  };
  release = record {
    released = refl;
    released_to_nobody = refl;
    nobody_owns = refl;
    another_owns = refl;
    refused = record {
      unused = refl;
      number_4 = refl;
      upper_half = refl;
      upper_half_of_own = refl;
      nothing = refl;
      port = refl;
      timer = refl;
      unused_chan = refl;
      sync = refl;
      thread = refl;
      clock = refl;
    };
    left_by_it = refl;
  };
  waking = record {
    issues = refl;
    nobody_owns = refl;
    first_issued = refl;
    both_eligible = refl;
    owns_it = refl;
    has_its_name = refl;
    not_eligible = refl;
    still_waits = refl;
  };
  freer = record {
    freed = refl;
    last_freed = refl;
    own = refl;
    owned = refl;
    unused = refl;
    is_waited_for = refl;
    other_is_waited_for = refl;
    number_4 = refl;
    upper_half = refl;
    nothing = refl;
    thread = refl;
    itself = refl;
    timer = refl;
    port = refl;
    clock = refl;
  };
  freer_of_chan = record {
    freed = refl;
    goes_on = refl;
    input_token = (refl, refl);
    output_token = (refl, refl);
    packet_over = refl;
    in_a_packet = (refl, refl);
    is_held = (refl, refl);
    input_waited_at = (refl, refl);
    output_waited_at = (refl, refl);
    other_waited_at = refl;
    event_waited_for = refl;
    unused = (refl, refl);
    chan_1 = refl;
    chan_32 = refl;
    other_node = refl;
  };
  second = record {
    traps = refl;
    is_halted = refl;
    first_waits = refl;
  };
}

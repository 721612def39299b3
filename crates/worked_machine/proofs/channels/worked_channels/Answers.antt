use Rattle.std.proofs.Common.{refl}
use Rattle.worked_machine.proofs.Computes.{computes}
use Rattle.worked_machine.proofs.channels.worked_channels.Goals as goal

pub returns : goal.returns
unfolding computes
returns c = record {
  getr = record {
    first_got = refl;
    is_in_use = refl;
    second_got = refl;
    two_in_use = refl;
    of_other_kind = refl;
    none_got = refl;
    timer_got = refl;
    timer_alone = refl;
  };
  setd = record {
    is_set = refl;
    goes_on = refl;
    again = refl;
    low_byte = refl;
    low_byte_keeps = refl;
    unused = refl;
    chan_32 = refl;
    other_node = refl;
    other_kind = refl;
    no_number = refl;
  };
  outct = record {
    is_put = refl;
    goes_on = refl;
    no_dest = refl;
    no_dest_keeps = refl;
    not_in_use = refl;
    pauses = refl;
    keeps = refl;
    is_issue = refl;
    still_full = refl;
    one_out = refl;
    wakes = refl;
    put_then = refl;
  };
  chkct = record {
    is_taken = refl;
    goes_on = refl;
    other_token = refl;
    other_stays = refl;
    data_byte = refl;
    not_in_use = refl;
    pauses = refl;
    waits = refl;
  };
  dependency = record {
    tokens = refl;
    other_stays = refl;
    more_tokens = refl;
    room = refl;
    room_keeps = refl;
    other_side = refl;
    side_of_room = refl;
    other_chan = refl;
    divider = refl;
    refused_first = refl;
    need_not_wait = refl;
  };
  network = record {
    taken = refl;
    credit_back = refl;
    credit_counted = refl;
    end_told = refl;
    end_taken = refl;
    woken = refl;
    packet_over = refl;
    byte_told = refl;
    byte_stays = refl;
    own_end_told = refl;
    own_end_taken = refl;
    own_end_wakes = refl;
    own_packet_over = refl;
    end_out = refl;
    no_more = refl;
    given_up = refl;
    noted = refl;
    not_yet = refl;
    high_byte = refl;
    in_gap = refl;
    low_byte = refl;
    chan_byte = refl;
    end_sent = refl;
    all_sent = refl;
  };
  last = record {
    dest_set = refl;
    put = refl;
    taken = refl;
    pauses = refl;
    before_it = refl;
    after_it = refl;
    dest_of_255 = refl;
  };
}

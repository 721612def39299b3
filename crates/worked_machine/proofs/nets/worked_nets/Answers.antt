use Rattle.std.proofs.Common.{refl}
use Rattle.worked_machine.proofs.Computes.{computes}
use Rattle.worked_machine.proofs.nets.worked_nets.Goals as goal

pub returns : goal.returns
unfolding computes
returns c = record {
  ways = record {
    itself = refl;
    end_0 = refl;
    not_end_0 = refl;
    end_7 = refl;
    not_end_7 = refl;
    of_0 = refl;
    of_1 = refl;
    of_2 = refl;
    of_3 = refl;
    lower_of_2 = refl;
    highest_bit_alone = refl;
    all_of_0 = refl;
    none_of_2 = refl;
  };
  packets = record {
    by_link_0 = refl;
    by_link_1 = refl;
    by_link_2 = refl;
    second_byte = refl;
    third_byte = refl;
    by_chan_0 = refl;
    by_chan_1 = refl;
    by_chan_2 = refl;
    still_waits = refl;
    waits_by_the_old = refl;
    not_by_the_new = refl;
    goes_by_the_old = refl;
    next_by_the_new = refl;
  };
  two_nets = record {
    the_upper = refl;
    the_lower = refl;
    both_headers = refl;
    no_way = refl;
    loss_told = refl;
    goes_first = refl;
    waits = refl;
    on_by_none = refl;
    on_by_1 = refl;
    by_0 = refl;
    by_2 = refl;
    own_node = refl;
    own_node_with_nets = refl;
  };
  chan_ends = record {
    freed = refl;
    got = refl;
    dest_set = refl;
    put = refl;
    taken = refl;
  };
  setn = record {
    is_set = refl;
    goes_on = refl;
    again = refl;
    net_4 = refl;
    net_4_keeps = refl;
    net_256 = refl;
    greatest = refl;
    not_in_use = refl;
    not_in_use_keeps = refl;
    unused = refl;
    chan_32 = refl;
    other_node = refl;
    other_kind = refl;
    no_number = refl;
    lock = refl;
  };
  getn = record {
    told = refl;
    net_0 = refl;
    over_its_name = refl;
    stays = refl;
    not_in_use = refl;
    chan_32 = refl;
    other_node = refl;
    other_kind = refl;
    lock = refl;
  };
}

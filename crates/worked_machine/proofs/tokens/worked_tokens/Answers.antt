use Rattle.std.proofs.Common.{refl}
use Rattle.worked_machine.proofs.Computes.{computes}
use Rattle.worked_machine.proofs.tokens.worked_tokens.Goals as goal

pub returns : goal.returns
unfolding computes
returns c = record {
  out = record {
    puts = refl;
    goes_on = refl;
    small = refl;
    greatest = refl;
    its_own_name = refl;
    four_wait = refl;
    five_waited = refl;
    nothing_put = refl;
    stays_at_it = refl;
    one_out = refl;
    then_put = refl;
    then_goes_on = refl;
    no_dest = refl;
    not_in_use = refl;
    waited_at = refl;
    other_side = refl;
    has_room = refl;
  };
  outt = record {
    byte = refl;
    goes_on = refl;
    low_byte = refl;
    byte_255 = refl;
    byte_0 = refl;
    control = refl;
    control_goes_on = refl;
    low_byte_of_control = refl;
    control_255 = refl;
    its_own_name = refl;
    eighth = refl;
    waits = refl;
    control_waits = refl;
    no_dest = refl;
    control_no_dest = refl;
    not_in_use = refl;
    control_not_in_use = refl;
    waited_at = refl;
    control_waited_at = refl;
  };
  in_word = record {
    takes = refl;
    none_left = refl;
    fifth_stays = refl;
    before_control = refl;
    greatest = refl;
    over_its_name = refl;
    control = refl;
    control_stays = refl;
    control_alone = refl;
    control_fourth = refl;
    three = refl;
    three_stay = refl;
    none = refl;
    not_in_use = refl;
    waited_at = refl;
    other_side = refl;
    refused_first = refl;
    four_came = refl;
  };
  int = record {
    byte = refl;
    rest_stays = refl;
    control = refl;
    rest_of_control = refl;
    over_its_name = refl;
    no_byte = refl;
    control_stays = refl;
    no_control = refl;
    byte_stays = refl;
    waits = refl;
    control_waits = refl;
    not_in_use = refl;
    control_not_in_use = refl;
    waited_at = refl;
    control_waited_at = refl;
  };
  chkct = record {
    takes = refl;
    rest_stays = refl;
    control_255 = refl;
    high_bits = refl;
    high_bits_stays = refl;
    other_control = refl;
    byte = refl;
    byte_stays = refl;
    waits = refl;
    waits_in_vain = refl;
    not_in_use = refl;
    waited_at = refl;
  };
  testct = record {
    byte = refl;
    control = refl;
    byte_stays = refl;
    control_stays = refl;
    waits = refl;
    not_in_use = refl;
    waited_at = refl;
  };
  testwct = record {
    none = refl;
    first_place = refl;
    second_place = refl;
    third_place = refl;
    fourth_place = refl;
    fifth_place = refl;
    all_stay = refl;
    four_stay = refl;
    three = refl;
    nothing = refl;
    not_in_use = refl;
    waited_at = refl;
    other_side = refl;
  };
  getd = record {
    dest = refl;
    no_dest = refl;
    over_its_name = refl;
    stays = refl;
    not_in_use = refl;
  };
  last_getr = record {
    last_name = refl;
    last_used = refl;
    none = refl;
    none_used = refl;
    lowest = refl;
  };
  getr_of_set = record {
    got = refl;
    stays = refl;
    goes_out = refl;
    takes = refl;
    rest = refl;
  };
  both = record {
    claims = refl;
    takes_its_name = refl;
    tokens_stay = refl;
    takes_word = refl;
    lock_stays = refl;
    releases = refl;
    nothing_put = refl;
    puts_word = refl;
    still_owned = refl;
    no_byte_of_a_lock = refl;
    no_byte_to_a_lock = refl;
    no_dest_of_a_lock = refl;
    other_node = refl;
    number_32 = refl;
  };
}

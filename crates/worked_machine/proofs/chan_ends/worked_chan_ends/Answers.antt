use Rattle.std.proofs.Common.{refl}
use Rattle.worked_machine.proofs.chan_ends.worked_chan_ends.Goals as goal

pub returns : goal.returns
returns c = record {
  no_word = refl;
  third_place = refl;
  first_byte = refl;
  three = refl;
  no_control = refl;
  three_looked = refl;
  word = refl;
  nothing = refl;
  no_place = refl;
  fifth = refl;
  fifth_place = refl;
  control = refl;
  no_byte = refl;
  is_control = refl;
  is_byte = refl;
  checked = refl;
  other_value = refl;
  byte_of_the_value = refl;
  none_to_check = refl;
  fourth_free = refl;
  three_free = refl;
  eighth = refl;
  ninth = refl;
  no_dest = refl;
  token_no_dest = refl;
  dest_set = refl;
  no_chan_end = refl;
  dest_told = refl;
  none_told = refl;
  net_set = refl;
  net_0_set = refl;
  no_net_4 = refl;
  no_net_256 = refl;
  net_told = refl;
  unused = refl;
  unused_no_dest = refl;
  unused_no_net = refl;
  unused_takes_no_net = refl;
}

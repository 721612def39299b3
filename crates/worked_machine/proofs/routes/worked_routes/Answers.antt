use Rattle.std.proofs.Common.{refl}
use Rattle.worked_machine.proofs.Computes.{computes}
use Rattle.worked_machine.proofs.routes.worked_routes.Goals as goal

pub returns : goal.returns
unfolding computes
returns c = record {
  ways = record {
    itself = refl;
    bit_0 = refl;
    bit_1 = refl;
    bit_2 = refl;
    bit_2_alone = refl;
    bit_7 = refl;
    bit_15 = refl;
    greatest = refl;
  };
  two_ends = record {
    lower = refl;
    upper = refl;
    third_waits = refl;
    both_headers = refl;
    byte_waits = refl;
    given_up = refl;
    taken_up = refl;
    the_other = refl;
    end_alone = refl;
    next_header = refl;
    of_mask = refl;
    held = refl;
  };
  router = record {
    forth = refl;
    back = refl;
    headers = refl;
    no_credit = refl;
    low_bytes = refl;
    numbers = refl;
    bytes = refl;
    credits = refl;
    end_next = refl;
    packet_over = refl;
    other_goes_on = refl;
    turns = refl;
    turns_header = refl;
    turns_end = refl;
    turns_credit = refl;
    turns_over = refl;
    first_holds = refl;
    second_waits = refl;
  };
  missing = record {
    waits = refl;
    other_over = refl;
    may_be_freed = refl;
    lost = refl;
    lost_from_then = refl;
    nothing_taken = refl;
    end_dropped = refl;
    told_once = refl;
    then_idle = refl;
    else_delivered = refl;
    header_taken = refl;
    no_such_chan = refl;
    rest_waits = refl;
    number_out = refl;
    no_way = refl;
  };
}

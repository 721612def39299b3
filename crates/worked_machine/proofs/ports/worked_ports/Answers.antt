use Rattle.std.proofs.Common.{refl}
use Rattle.worked_machine.proofs.Computes.{computes}
use Rattle.worked_machine.proofs.ports.worked_ports.Goals as goal

pub returns : goal.returns
unfolding computes
returns c = record {
  outputs = record {
    plain_wave = refl;
    plain_stamp = refl;
    timed_wave = refl;
    timed_later = refl;
    timed_stamp = refl;
    bits_wave = refl;
    bits_stamp = refl;
    next_word = refl;
    drained = refl;
    full = refl;
  };
  inputs = record {
    seven_bits = refl;
    eight_bits = refl;
    bits_stamp = refl;
    dropped = refl;
    dropped_stamp = refl;
    three_bits = refl;
    not_yet = refl;
    met = refl;
    met_stamp = refl;
    before_its_time = refl;
    in_time = refl;
    held = refl;
    held_stamp = refl;
    strobe_low = refl;
    strobe_high = refl;
    counts_without = refl;
  };
  turns = record {
    in_turns = refl;
    in_waits = refl;
    out_turns = refl;
    time_drops_sample = refl;
    part_of_unbuffered = refl;
    part_no_multiple = refl;
    part = refl;
    width_of_unbuffered = refl;
    width_below = refl;
    width_none = refl;
    on_again = refl;
    no_mode = refl;
    of_clock_blocks = refl;
    end_in_output = refl;
  };
  runs = record {
    drives = refl;
    word = refl;
    stamp = refl;
    no_event = refl;
    ended = refl;
  };
}

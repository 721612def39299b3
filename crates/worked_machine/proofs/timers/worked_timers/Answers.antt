use Rattle.std.proofs.Common.{refl}
use Rattle.worked_machine.proofs.Computes.{computes}
use Rattle.worked_machine.proofs.timers.worked_timers.Goals as goal

pub returns : goal.returns
unfolding computes
returns c = record {
  getr = record {
    lowest = refl;
    last = refl;
    all_used = refl;
    stays = refl;
    last_stays = refl;
  };
  input = record {
    without_condition = refl;
    holds = refl;
    over_its_name = refl;
    waits = refl;
    waited_at = refl;
    other_waited_at = refl;
    need_not_wait = refl;
    refused_first = refl;
    refused = record {
      unused = refl;
      number_10 = refl;
      upper_half = refl;
      nothing = refl;
    };
    clock = refl;
  };
  timer_data = record {
    setd = refl;
    setd_without_condition = refl;
    setd_refused = record {
      unused = refl;
      number_10 = refl;
      upper_half = refl;
      nothing = refl;
    };
    getd = refl;
    getd_without_condition = refl;
    getd_refused = record {
      unused = refl;
      number_10 = refl;
      upper_half = refl;
      nothing = refl;
    };
  };
  timer_modes = record {
    after = refl;
    after_again = refl;
    after_of_word = refl;
    no_condition = refl;
    no_condition_again = refl;
    no_condition_of_word = refl;
    after_refused = record {
      unused = refl;
      number_10 = refl;
      upper_half = refl;
      nothing = refl;
    };
    no_condition_refused = record {
      unused = refl;
      number_10 = refl;
      upper_half = refl;
      nothing = refl;
    };
  };
  freer = record {
    freed = refl;
    others_stay = refl;
    waited_at = refl;
    other_waited_at = refl;
    event_waited_for = refl;
    refused = record {
      unused = refl;
      number_10 = refl;
      upper_half = refl;
      nothing = refl;
    };
    clock = refl;
  };
  clock_modes = record {
    on = refl;
    on_again = refl;
    on_refused = refl;
    off = refl;
    off_while_it_runs = refl;
    off_refused = record {
      is_off = refl;
      other_is_off = refl;
      number_6 = refl;
      upper_half = refl;
    };
    starts = refl;
    starts_again = refl;
    starts_of_word = refl;
    start_refused = record {
      is_off = refl;
      other_is_off = refl;
      number_6 = refl;
      upper_half = refl;
    };
    stops = refl;
    stops_again = refl;
    stop_refused = record {
      is_off = refl;
      other_is_off = refl;
      number_6 = refl;
      upper_half = refl;
    };
  };
  dividers = record {
    greatest = refl;
    least = refl;
    too_great = refl;
    whole_word = refl;
    while_it_runs = refl;
    same_while_it_runs = refl;
    setd_refused = record {
      is_off = refl;
      other_is_off = refl;
      number_6 = refl;
      upper_half = refl;
    };
    getd = refl;
    getd_while_it_runs = refl;
    getd_of_0 = refl;
    getd_refused = record {
      is_off = refl;
      other_is_off = refl;
      number_6 = refl;
      upper_half = refl;
    };
  };
}

use Rattle.std.proofs.Common.{refl}
use Rattle.worked_machine.proofs.Computes.{computes}
use Rattle.worked_machine.proofs.events.worked_events.Goals as goal

pub returns : goal.returns
unfolding computes
returns c = record {
  setting = record {
    vector = record {
      chan = refl;
      timer = refl;
    };
    vector_of_other = record {
      chan = refl;
      timer = refl;
    };
    vector_of_nobodys = record {
      chan = refl;
      timer = refl;
    };
    vector_refused = record {
      unused_chan = refl;
      unused_timer = refl;
      chan_of_other_node = refl;
      upper_half = refl;
      chan_32 = refl;
      timer_10 = refl;
      port = refl;
      sync = refl;
      thread = refl;
      lock = refl;
      clock = refl;
      nothing = refl;
    };
    environment = record {
      chan = refl;
      timer = refl;
    };
    environment_of_other = record {
      chan = refl;
      timer = refl;
    };
    environment_of_nobodys = record {
      chan = refl;
      timer = refl;
    };
    environment_refused = record {
      unused_chan = refl;
      unused_timer = refl;
      chan_of_other_node = refl;
      upper_half = refl;
      chan_32 = refl;
      timer_10 = refl;
      port = refl;
      sync = refl;
      thread = refl;
      lock = refl;
      clock = refl;
      nothing = refl;
    };
    interrupt = record {
      chan = refl;
      timer = refl;
    };
    interrupt_of_other = record {
      chan = refl;
      timer = refl;
    };
    interrupt_again = record {
      chan = refl;
      timer = refl;
    };
    interrupt_refused = record {
      unused_chan = refl;
      unused_timer = refl;
      chan_of_other_node = refl;
      upper_half = refl;
      chan_32 = refl;
      timer_10 = refl;
      port = refl;
      sync = refl;
      thread = refl;
      lock = refl;
      clock = refl;
      nothing = refl;
    };
    event = record {
      chan = refl;
      timer = refl;
    };
    event_of_other = record {
      chan = refl;
      timer = refl;
    };
    event_again = record {
      chan = refl;
      timer = refl;
    };
    event_refused = record {
      unused_chan = refl;
      unused_timer = refl;
      chan_of_other_node = refl;
      upper_half = refl;
      chan_32 = refl;
      timer_10 = refl;
      port = refl;
      sync = refl;
      thread = refl;
      lock = refl;
      clock = refl;
      nothing = refl;
    };
  };
  enabling = record {
    eeu = record {
      chan = refl;
      timer = refl;
    };
    eeu_again = record {
      chan = refl;
      timer = refl;
    };
    eeu_of_other = record {
      chan = refl;
      timer = refl;
    };
    eeu_refused = record {
      unused_chan = refl;
      unused_timer = refl;
      chan_of_other_node = refl;
      upper_half = refl;
      chan_32 = refl;
      timer_10 = refl;
      port = refl;
      sync = refl;
      thread = refl;
      lock = refl;
      clock = refl;
      nothing = refl;
    };
    edu = record {
      chan = refl;
      timer = refl;
    };
    edu_of_other = record {
      chan = refl;
      timer = refl;
    };
    edu_again = record {
      chan = refl;
      timer = refl;
    };
    edu_refused = record {
      unused_chan = refl;
      unused_timer = refl;
      chan_of_other_node = refl;
      upper_half = refl;
      chan_32 = refl;
      timer_10 = refl;
      port = refl;
      sync = refl;
      thread = refl;
      lock = refl;
      clock = refl;
      nothing = refl;
    };
    eet = record {
      chan = refl;
      timer = refl;
    };
    eet_of_0 = record {
      chan = refl;
      timer = refl;
    };
    eet_refused = record {
      unused_chan = refl;
      unused_timer = refl;
      chan_of_other_node = refl;
      upper_half = refl;
      chan_32 = refl;
      timer_10 = refl;
      port = refl;
      sync = refl;
      thread = refl;
      lock = refl;
      clock = refl;
      nothing = refl;
    };
    eef = record {
      chan = refl;
      timer = refl;
    };
    eef_of_0 = record {
      chan = refl;
      timer = refl;
    };
    eef_refused = record {
      unused_chan = refl;
      unused_timer = refl;
      chan_of_other_node = refl;
      upper_half = refl;
      chan_32 = refl;
      timer_10 = refl;
      port = refl;
      sync = refl;
      thread = refl;
      lock = refl;
      clock = refl;
      nothing = refl;
    };
    eet_of_its_name = record {
      chan = refl;
      timer = refl;
    };
  };
  forgotten = record {
    chan = refl;
    timer = refl;
  };
}

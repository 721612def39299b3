use Rattle.std.proofs.Common.{refl}
use Rattle.worked_machine.proofs.Computes.{computes}
use Rattle.worked_machine.proofs.choices.worked_choices.Goals as goal

pub returns : goal.returns
unfolding computes
returns c = record {
  order = record {
    chans = record {
      events = refl;
      interrupts = refl;
      other_order = refl;
      interrupt_first = refl;
      interrupt_before_event = refl;
      second_alone = refl;
    };
    last_chan = record {
      events = refl;
      interrupts = refl;
      other_order = refl;
      interrupt_first = refl;
      interrupt_before_event = refl;
      second_alone = refl;
    };
    timers = record {
      events = refl;
      interrupts = refl;
      other_order = refl;
      interrupt_first = refl;
      interrupt_before_event = refl;
      second_alone = refl;
    };
    last_timer = record {
      events = refl;
      interrupts = refl;
      other_order = refl;
      interrupt_first = refl;
      interrupt_before_event = refl;
      second_alone = refl;
    };
    ports = record {
      events = refl;
      interrupts = refl;
      other_order = refl;
      interrupt_first = refl;
      interrupt_before_event = refl;
      second_alone = refl;
    };
    chan_before_timer = record {
      events = refl;
      interrupts = refl;
      other_order = refl;
      interrupt_first = refl;
      interrupt_before_event = refl;
      second_alone = refl;
    };
    chan_before_port = record {
      events = refl;
      interrupts = refl;
      other_order = refl;
      interrupt_first = refl;
      interrupt_before_event = refl;
      second_alone = refl;
    };
    timer_before_port = record {
      events = refl;
      interrupts = refl;
      other_order = refl;
      interrupt_first = refl;
      interrupt_before_event = refl;
      second_alone = refl;
    };
  };
  ready = record {
    no_token = refl;
    token = refl;
    before_its_time = refl;
    at_its_time = refl;
    before_half = refl;
    at_half = refl;
    without_condition = refl;
    not_in_use = refl;
    port = refl;
    port_puts_out = refl;
    port_is_off = refl;
    second_chan = refl;
    timer_after_chan = refl;
    event_after_interrupt = refl;
    none = refl;
  };
  own = record {
    other_event = refl;
    other_interrupt = refl;
    others_alone = refl;
    nobody = refl;
    nobody_alone = refl;
    of_thread_7 = refl;
    of_thread_5 = refl;
  };
  allowed = record {
    events = refl;
    interrupts = refl;
    both = refl;
    neither = refl;
    others = refl;
    event_and_others = refl;
    interrupt_and_others = refl;
    all = refl;
    no_interrupt_as_event = refl;
    no_event_as_interrupt = refl;
  };
}

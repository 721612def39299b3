use Rattle.std.proofs.Common.{refl}
use Rattle.worked_machine.proofs.Computes.{computes}
use Rattle.worked_machine.proofs.entered.worked_entered.Goals as goal

pub returns : goal.returns
unfolding computes
returns c = record {
  taken = record {
    event = refl;
    interrupt = refl;
    not_let_in = refl;
    free = refl;
    unstarted = refl;
    at_sync = refl;
    halted = refl;
  };
  pauses = record {
    room = record {
      event = refl;
      interrupt = refl;
      not_let_in = refl;
    };
    tokens = record {
      event = refl;
      interrupt = refl;
      not_let_in = refl;
    };
    port = record {
      event = refl;
      interrupt = refl;
      not_let_in = refl;
    };
    timer = record {
      event = refl;
      interrupt = refl;
      not_let_in = refl;
    };
    lock = record {
      event = refl;
      interrupt = refl;
      not_let_in = refl;
    };
    slaves = record {
      event = refl;
      interrupt = refl;
      not_let_in = refl;
    };
    choice = record {
      event = refl;
      interrupt = refl;
      not_let_in = refl;
    };
    divider = record {
      event = refl;
      interrupt = refl;
      not_let_in = refl;
    };
  };
  token_comes = record {
    told = refl;
    taken = refl;
  };
  return = record {
    interrupt = refl;
    handler = refl;
    back = refl;
    paused_again = refl;
    interrupt_in_wait = refl;
    back_in_wait = refl;
    waits_again = refl;
    other_is_paused = refl;
    traps = refl;
  };
  no_code = record {
    event = refl;
    event_tells_nothing = refl;
    event_traps = refl;
    interrupt_tells_nothing = refl;
    interrupt_traps = refl;
  };
}

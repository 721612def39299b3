use Rattle.std.proofs.Common.{refl}
use Rattle.worked_machine.proofs.Computes.{computes}
use Rattle.worked_machine.proofs.time_runs.worked_time_runs.Goals as goal

pub returns : goal.returns
unfolding computes
returns c = record {
  token_or_time = record {
    places = refl;
    events = refl;
    waits = refl;
    taken = refl;
    before_store = refl;
    stored = refl;
    ended = refl;
  };
  past_time = record {
    done = refl;
    before_store = refl;
    stored = refl;
    first_word = refl;
    ended = refl;
    no_event = refl;
    waits = refl;
    wakes = refl;
  };
  ticks = record {
    places = refl;
    loops = refl;
    taken = refl;
    before_store = refl;
    stored = refl;
    back = refl;
    loops_again = refl;
    no_event = refl;
  };
  started = record {
    edges = refl;
  };
}

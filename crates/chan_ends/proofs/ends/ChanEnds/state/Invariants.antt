use Rattle.std.proofs.Common.{ℕ, ◌≡◌, ◌<◌, length, get_or, take}
use Rattle.std.specs.Prelude.{map}
use Rattle.xs_model.specs.Record.{unused_chan}
use Rattle.chan_ends.specs.States.{chan_state, IsChan}
use Rattle.chan_ends.proofs.ends.ChanEnds.state.Given as goal

-- those of the channel ends below c stand in their places
abbrev pub invariant-loop-c : goal.invariant-loop-c
invariant-loop-c l = record {
  long : length l.states ≡ 32;
  done : take l.c l.states ≡ map chan_state (take l.c l.self);
  facts : (k : ℕ) → k < l.c → IsChan (get_or l.self k unused_chan);
}

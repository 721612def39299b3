use Rattle.std.proofs.Common.{◌≡◌, length, take}
use Rattle.std.specs.Prelude.{map}
use Rattle.chan_ends.specs.States.{chan_of}
use Rattle.chan_ends.proofs.ends.ChanEnds.of_state.Given as goal

-- the channel ends below c stand in their places
abbrev pub invariant-loop-c : goal.invariant-loop-c
invariant-loop-c l = record {
  long : length l.ends ≡ 32;
  done : take l.c l.ends ≡ map chan_of (take l.c l.chans);
}

use Rattle.std.proofs.Common.{◌≡◌, drop}
use Rattle.net_model.specs.Chans.{free_chan}
use Rattle.chan_ends.proofs.ends.first_free.Given as goal

-- no channel end below c is free
abbrev pub invariant-loop-c : goal.invariant-loop-c
invariant-loop-c l = free_chan l.ends 0 ≡ free_chan (drop l.c l.ends) l.c

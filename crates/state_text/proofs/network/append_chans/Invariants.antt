use Rattle.std.proofs.Common.{◌≡◌, ◌++◌, drop}
use Rattle.trace_model.specs.Trace.{by_position}
use Rattle.look_model.specs.Network.{chan_line}
use Rattle.state_text.proofs.network.append_chans.Given as goal

abbrev pub invariant-loop-c : goal.invariant-loop-c
invariant-loop-c l = l.out ++ by_position (chan_line l.node) l.c (drop l.c l.chans) ≡ l.initial.out ++ by_position (chan_line l.node) 0 l.chans

use Rattle.std.proofs.Common.{◌≡◌, ◌++◌, drop}
use Rattle.trace_model.specs.Trace.{by_position}
use Rattle.look_model.specs.Network.{end_line}
use Rattle.state_text.proofs.network.append_ends.Given as goal

abbrev pub invariant-loop-e : goal.invariant-loop-e
invariant-loop-e l =
    l.out ++ by_position (end_line l.plan l.n l.node) l.e (drop l.e l.ends)
    ≡ l.initial.out ++ by_position (end_line l.plan l.n l.node) 0 l.ends

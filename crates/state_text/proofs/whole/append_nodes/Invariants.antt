use Rattle.std.proofs.Common.{◌≡◌, ◌++◌, drop, map}
use Rattle.trace_model.specs.Trace.{by_position}
use Rattle.look_model.specs.States.{lines_at}
use Rattle.state_text.proofs.whole.append_nodes.Given as goal

abbrev pub invariant-loop-n : goal.invariant-loop-n
invariant-loop-n l =
    l.out ++ by_position (lines_at l.plan l.slot (map (λ numbers. numbers.items) l.lines) l.snaps) l.n (drop l.n l.nodes)
    ≡ l.initial.out ++ by_position (lines_at l.plan l.slot (map (λ numbers. numbers.items) l.lines) l.snaps) 0 l.nodes

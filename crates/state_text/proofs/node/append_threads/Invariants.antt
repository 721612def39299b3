use Rattle.std.proofs.Common.{◌≡◌, ◌++◌, drop}
use Rattle.trace_model.specs.Trace.{by_position}
use Rattle.look_model.specs.Waits.{thread_lines}
use Rattle.state_text.proofs.node.append_threads.Given as goal

abbrev pub invariant-loop-k : goal.invariant-loop-k
invariant-loop-k l =
    l.out ++ by_position (thread_lines l.seat.node.now l.seat.lines.now l.seat.slot l.seat.state.now) l.k (drop l.k l.threads)
    ≡ l.initial.out ++ by_position (thread_lines l.seat.node.now l.seat.lines.now l.seat.slot l.seat.state.now) 0 l.threads

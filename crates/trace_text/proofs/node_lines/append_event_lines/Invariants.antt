use Rattle.std.proofs.Common.{◌≡◌, ◌++◌, take}
use Rattle.trace_model.specs.Trace.{event_lines}
use Rattle.trace_text.proofs.node_lines.append_event_lines.Given as goal

abbrev pub invariant-loop-e : goal.invariant-loop-e
invariant-loop-e l = l.out ≡ l.initial.out ++ event_lines l.nodes (take l.e-index l.events)

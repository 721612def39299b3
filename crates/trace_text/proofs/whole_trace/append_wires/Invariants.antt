use Rattle.std.proofs.Common.{◌≡◌, ◌++◌, drop}
use Rattle.trace_model.specs.Trace.{by_position, changes_at}
use Rattle.trace_text.proofs.whole_trace.append_wires.Given as goal

abbrev pub invariant-loop-w : goal.invariant-loop-w
invariant-loop-w g l =
    l.out ++ by_position (changes_at l.nodes l.first (g.R.EndedRun.end l.run)) l.w (drop l.w l.wires)
    ≡ l.initial.out ++ by_position (changes_at l.nodes l.first (g.R.EndedRun.end l.run)) 0 l.wires

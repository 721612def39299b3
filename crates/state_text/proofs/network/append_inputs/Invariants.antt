use Rattle.std.proofs.Common.{◌≡◌, ◌++◌, drop}
use Rattle.trace_model.specs.Trace.{by_position}
use Rattle.look_model.specs.Network.{input_line}
use Rattle.state_text.proofs.network.append_inputs.Given as goal

abbrev pub invariant-loop-i : goal.invariant-loop-i
invariant-loop-i l =
    l.out ++ by_position (input_line l.node l.state) l.i (drop l.i l.inputs)
    ≡ l.initial.out ++ by_position (input_line l.node l.state) 0 l.inputs

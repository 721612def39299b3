use Rattle.std.proofs.Common.{◌≡◌, ◌++◌, drop}
use Rattle.trace_model.specs.Trace.{by_position}
use Rattle.look_model.specs.Waits.{enabled_line}
use Rattle.state_text.specs.Kinds.{tells}
use Rattle.state_text.proofs.enabled.append_kind.Given as goal

abbrev pub invariant-loop-n : goal.invariant-loop-n
invariant-loop-n l =
    l.out ++ by_position (λ n enable. enabled_line l.k l.sr enable (tells l.kind l.id l.slot l.state n)) l.n (drop l.n l.enables)
    ≡ l.initial.out ++ by_position (λ n enable. enabled_line l.k l.sr enable (tells l.kind l.id l.slot l.state n)) 0 l.enables

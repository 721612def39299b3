use Rattle.std.proofs.Common.{◌≡◌, take}
use Rattle.run_plan.specs.Starts.{wires_at_start}
use Rattle.run_plan.proofs.wiring.wires_of.Given as goal

abbrev pub invariant-loop-wire : goal.invariant-loop-wire
invariant-loop-wire l = record { start : l.wires.items ≡ wires_at_start (take l.wire-index l.plan.wires) }

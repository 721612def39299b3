use Rattle.std.proofs.Common.{◌≡◌, map, take}
use Rattle.system_model.specs.System.{wire_plan}
use Rattle.system_text.proofs.wire_plans.wire_plans.Given as goal

abbrev pub invariant-loop-wire : goal.invariant-loop-wire
invariant-loop-wire l = l.plans.items ≡ map (wire_plan l.nodes) (take l.wire-index l.wires)

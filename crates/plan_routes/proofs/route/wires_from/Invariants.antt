use Rattle.std.proofs.Common.{◌≡◌, ◌+◌, drop}
use Rattle.sys_plan.specs.Plan.{count_from}
use Rattle.plan_routes.proofs.route.wires_from.Given as goal

-- so many of the wires so far are at the node
abbrev pub invariant-loop-wire : goal.invariant-loop-wire
invariant-loop-wire l = record {
  counted : l.count + count_from l.node (drop l.wire-index l.wires) ≡ count_from l.node l.wires;
}

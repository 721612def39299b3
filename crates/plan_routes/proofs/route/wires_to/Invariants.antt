use Rattle.std.proofs.Common.{◌≡◌, ◌+◌, drop}
use Rattle.sys_plan.specs.Plan.{count_to}
use Rattle.plan_routes.proofs.route.wires_to.Given as goal

-- so many of the wires so far are at the node
abbrev pub invariant-loop-wire : goal.invariant-loop-wire
invariant-loop-wire l = record {
  counted : l.count + count_to l.node (drop l.wire-index l.wires) ≡ count_to l.node l.wires;
}

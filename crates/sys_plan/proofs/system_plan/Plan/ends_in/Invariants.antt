use Rattle.std.proofs.Common.{◌≡◌, ◌+◌, drop}
use Rattle.sys_plan.specs.Plan.{count_to}
use Rattle.sys_plan.proofs.system_plan.Plan.ends_in.Given as goal

-- so many of the wires so far are at the node
abbrev pub invariant-loop-wire : goal.invariant-loop-wire
invariant-loop-wire l = record {
  counted : l.ends + count_to l.node (drop l.wire-index l.wire-items) ≡ 8 + count_to l.node l.wire-items;
}

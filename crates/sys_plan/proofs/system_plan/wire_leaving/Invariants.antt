use Rattle.std.proofs.Common.{◌≡◌, ◌≤◌, drop}
use Rattle.sys_plan.specs.declared.WirePlan.{WirePlan}
use Rattle.sys_plan.proofs.Wires.{nth_at}
use Rattle.sys_plan.proofs.system_plan.wire_leaving.Given as goal

-- no wire so far is the one
abbrev pub invariant-loop-wire : goal.invariant-loop-wire
invariant-loop-wire l = record {
  number : l.number ≡ l.wire-index;
  left : l.left ≤ l.before;
  rest : nth_at (λ (w : WirePlan). w.a) l.node l.before 0 l.wires ≡ nth_at (λ (w : WirePlan). w.a) l.node l.left l.number (drop l.wire-index l.wires);
}

use Rattle.std.proofs.Common.{◌≡◌, ℕ, ◌+◌, List, [], drop, refl, ap, sym, ◌∙◌, arith, rules}
use Rattle.sys_plan.specs.declared.WirePlan.{WirePlan}
use Rattle.sys_plan.specs.Plan.{Arc, first_arc, leaves_by, wire_arcs}
use Rattle.sys_plan.proofs.Wires.{nth_at, nth-is, nth-here, all-passed}
use Rattle.sys_plan.proofs.system_plan.wire_leaving.Goals as goal

-- the arc is found as the wire is
module _ (node before left number index : ℕ) (wires : List WirePlan)
    (rest : nth_at (λ (w : WirePlan). w.a) node before 0 wires ≡ nth_at (λ (w : WirePlan). w.a) node left number (drop index wires)) where
  found : first_arc (leaves_by node (8 + before)) 0 (wire_arcs [] wires) ≡ nth_at (λ (w : WirePlan). w.a) node left number (drop index wires)
  found =
      nth-is (λ (w : WirePlan). w.a) (λ (d : Arc). d.from) (λ (d : Arc). d.from_end) (λ e w. refl) (λ e w. refl) node before [] wires 0 (8 + before) (omega arith) ∙ rest

pub returns-then-left-eq0-clause-value : goal.returns-then-left-eq0-clause-value
returns-then-left-eq0-clause-value c =
    sym (found c.args.node c.args.before c.loop-wire.left c.loop-wire.number c.loop-wire.wire-index c.args.wires.now c.loop-wire.invariant.rest
    ∙ nth-here (λ (w : WirePlan). w.a) c.args.node c.loop-wire.left c.loop-wire.number c.loop-wire.wire-index c.args.wires.now _ (search rules) c.if-wire-node.true (search rules))

pub returns-clause-value : goal.returns-clause-value
returns-clause-value c =
    sym (found c.args.node c.args.before c.loop-wire.left c.loop-wire.number c.loop-wire.wire-index c.args.wires.now c.loop-wire.invariant.rest
    ∙ ap (nth_at (λ (w : WirePlan). w.a) c.args.node c.loop-wire.left c.loop-wire.number) (all-passed c.loop-wire.wire-index c.args.wires.now (search rules)))

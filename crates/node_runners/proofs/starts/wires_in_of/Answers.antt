use Rattle.std.proofs.Common.{◌≤◌, List, [], ◌∷◌, ◌++◌, length, ap, ◌∙◌, arith}
use Rattle.sys_plan.specs.declared.WirePlan.{WirePlan}
use Rattle.node_runners.specs.declared.wire_inlets.WireInlet.{WireInlet}
use Rattle.node_runners.specs.Queue.{InletRec}
use Rattle.node_runners.proofs.Wiring.{lent_wire, wire-here, in-more, in-stays, all-in}
use Rattle.node_runners.proofs.starts.wires_in_of.Goals as goal
use Rattle.node_runners.proofs.starts.wires_in_of.Goals.{then-wire-n+in_ok-push, else-wire-n}

pub loop-wire-preserved : goal.loop-wire-preserved
loop-wire-preserved c =
    let is = c.wires-wire-items.ensures.plan in
    let lent = c.wires-wire-items.result.now in
    let i = c.loop-wire.wire-index in
    let here = wire-here c.args.plan.now lent i c.wires-wire-items.ensures.value c.loop-wire-test.true in
    let at_port : InletRec → WireInlet = λ inlet. record { port = (lent_wire lent i).b_port; inlet = inlet } in
    elim c.if-wire-n.branch [
      | then-wire-n+in_ok-push w ↦
          in-more is here w.if-wire-n.true c.loop-wire.invariant
          ((λ j. (w.ends-is j).items) ∙ w.in_ok-push.ensures.items ∙ (λ j. c.loop-wire.ends.items ++ at_port (w.new.ensures j) ∷ []))
      | else-wire-n w ↦ in-stays is here w.if-wire-n.false c.loop-wire.invariant (λ j. (w.ends-is j).items)
    ]

pub returns-clause-all : goal.returns-clause-all
returns-clause-all c =
    let past : length c.args.plan.now.wires ≤ c.loop-wire.wire-index = omega (arith, ap (λ (ws : List WirePlan). length ws) c.wires-wire-items.ensures.value) in
    all-in c.args.plan.now c.args.n c.loop-wire.wire-index c.loop-wire.ends.items past c.loop-wire.invariant

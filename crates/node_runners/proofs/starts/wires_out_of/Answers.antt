use Rattle.std.proofs.Common.{◌≤◌, List, [], ◌∷◌, ◌++◌, length, ap, ◌∙◌, arith}
use Rattle.sys_plan.specs.declared.WirePlan.{WirePlan}
use Rattle.node_runners.proofs.Wiring.{wire-here, out-more, out-stays, all-out}
use Rattle.node_runners.proofs.starts.wires_out_of.Goals as goal
use Rattle.node_runners.proofs.starts.wires_out_of.Goals.{then-wire-n+in_ok-push, else-wire-n}

pub loop-wire-preserved : goal.loop-wire-preserved
loop-wire-preserved c =
    let is = c.wires-wire-items.ensures.plan in
    let here = wire-here c.args.plan.now c.wires-wire-items.result.now c.loop-wire.wire-index c.wires-wire-items.ensures.value c.loop-wire-test.true in
    elim c.if-wire-n.branch [
      | then-wire-n+in_ok-push w ↦
          out-more is here w.if-wire-n.true c.loop-wire.invariant
          ((λ j. (w.ends-is j).items) ∙ w.in_ok-push.ensures.items ∙ (λ j. c.loop-wire.ends.items ++ w.new.ensures j ∷ []))
      | else-wire-n w ↦ out-stays is here w.if-wire-n.false c.loop-wire.invariant (λ j. (w.ends-is j).items)
    ]

pub returns-clause-all : goal.returns-clause-all
returns-clause-all c =
    let past : length c.args.plan.now.wires ≤ c.loop-wire.wire-index = omega (arith, ap (λ (ws : List WirePlan). length ws) c.wires-wire-items.ensures.value) in
    all-out c.args.plan.now c.args.n c.loop-wire.wire-index c.loop-wire.ends.items past c.loop-wire.invariant

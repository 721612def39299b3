use Rattle.std.proofs.Common.{◌≡◌, ap, arith, rules, drop}
use Rattle.sys_plan.specs.declared.WirePlan.{WirePlan}
use Rattle.sys_plan.specs.Plan.{count_to}
use Rattle.sys_plan.proofs.Wires.{all-passed, counts-few}
use Rattle.plan_routes.proofs.route.wires_to.Goals as goal

pub overflow_add-count : goal.overflow_add-count
overflow_add-count c = omega (arith, counts-few (λ (w : WirePlan). w.b) c.args.node c.args.wires.now, c.loop-wire.invariant.counted, c.requires.few)

pub returns-clause-value : goal.returns-clause-value
returns-clause-value c =
    let done : count_to c.args.node (drop c.loop-wire.wire-index c.args.wires.now) ≡ 0 = ap (count_to c.args.node) (all-passed c.loop-wire.wire-index c.args.wires.now (search rules)) in
    omega (arith, c.loop-wire.invariant.counted, done)

pub returns-clause-most : goal.returns-clause-most
returns-clause-most c = omega (arith, counts-few (λ (w : WirePlan). w.b) c.args.node c.args.wires.now, c.loop-wire.invariant.counted, c.requires.few)

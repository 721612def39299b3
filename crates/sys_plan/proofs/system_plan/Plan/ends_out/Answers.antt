use Rattle.std.proofs.Common.{◌≡◌, ◌≤◌, ◌+◌, ap, arith, rules, drop}
use Rattle.sys_plan.specs.Plan.{count_from}
use Rattle.sys_plan.proofs.Wires.{all-passed}
use Rattle.sys_plan.proofs.Routes.{count_from_few, outgoing-past}
use Rattle.sys_plan.proofs.system_plan.Plan.ends_out.Goals as goal

pub overflow_add-ends : goal.overflow_add-ends
overflow_add-ends c =
    omega (arith, count_from_few c.args.self.now c.wires-wire-items.ensures.plan c.args.node, c.loop-wire.invariant.counted, ap (count_from c.args.node) c.wires-wire-items.ensures.value)

pub returns-clause-past : goal.returns-clause-past
returns-clause-past c end far =
    let done : count_from c.args.node (drop c.loop-wire.wire-index c.wires-wire-items.result.now) ≡ 0 = ap (count_from c.args.node) (all-passed c.loop-wire.wire-index c.wires-wire-items.result.now (search rules)) in
    outgoing-past c.args.self.now c.wires-wire-items.ensures.plan c.args.node end
    (omega (arith, far, c.loop-wire.invariant.counted, done, ap (count_from c.args.node) c.wires-wire-items.ensures.value))

pub returns-clause-most : goal.returns-clause-most
returns-clause-most c =
    omega (arith, count_from_few c.args.self.now c.wires-wire-items.ensures.plan c.args.node, c.loop-wire.invariant.counted, ap (count_from c.args.node) c.wires-wire-items.ensures.value)

use Rattle.std.proofs.Common.{◌-◌, ◌==◌, get_or, sym, arith, rules}
use Rattle.switch_routes.proofs.Networks.{one_or_none, none_left, has_room, one_more}
use Rattle.switch_routes.proofs.ways.ends_of_net.Goals as goal

pub loop-end-init : goal.loop-end-init
loop-end-init c = sym (none_left c.args.nets.now c.args.net (search rules) 8 (search rules))

pub overflow_mul-ends : goal.overflow_mul-ends
overflow_mul-ends c = omega (arith, has_room c.args.nets.now c.args.net (search rules) c.loop-end.end (search rules), c.loop-end.invariant)

pub overflow_add-ends : goal.overflow_add-ends
overflow_add-ends c = omega (arith, has_room c.args.nets.now c.args.net (search rules) c.loop-end.end (search rules), c.loop-end.invariant, c.one_if.ensures.value, one_or_none (get_or c.args.nets.now (c.loop-end.end - 1) 0 == c.args.net))

pub loop-end-preserved : goal.loop-end-preserved
loop-end-preserved c =
    omega (arith, one_more c.args.nets.now c.args.net (search rules) (c.loop-end.end - 1) c.loop-end.end (search rules) (search rules), c.loop-end.invariant, c.one_if.ensures.value)

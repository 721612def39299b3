use Rattle.std.proofs.Common.{◌+◌, arith}
use Rattle.switch_routes.proofs.Walk.{walked-first, walked-next, walked-last}
use Rattle.switch_routes.proofs.work.Work.steps.Goals as goal

pub loop-left-init : goal.loop-left-init
loop-left-init c = (0, walked-first c.args.self.now c.able-left.result c.able-left.ensures.still c.able-left.ensures.above)

pub loop-left-preserved : goal.loop-left-preserved
loop-left-preserved c =
    let k = c.lowest-input.result in
    let walk = c.loop-left.invariant in
    (k + 1, walked-next walk.0 k c.loop-left.left c.without-left.result c.args.self.now c.loop-left.self _ walk.1 c.lowest-input.ensures.is c.lowest-input.ensures.least c.lowest-input.ensures.within c.without-left.ensures.bits c.step.ensures)

pub returns : goal.returns
returns c = walked-last c.loop-left.invariant.0 c.loop-left.left c.args.self.now c.loop-left.self (omega arith) c.loop-left.invariant.1

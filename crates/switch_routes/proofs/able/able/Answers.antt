use Rattle.std.proofs.Common.{arith}
use Rattle.switch_routes.proofs.CanAct.{still_in, above_in}
use Rattle.switch_routes.proofs.able.able.Goals as goal

pub returns-clause-still : goal.returns-clause-still
returns-clause-still c =
    rw (c.from.ensures, c.from-2.ensures) (λ i h clear.
    still_in c.args.inputs.now c.args.chans.now c.args.links.now c.alone.result c.sending.result c.waiting.result (omega arith) (c.alone.ensures.value) c.sending.ensures.value c.waiting.ensures.marked i h clear)

pub returns-clause-above : goal.returns-clause-above
returns-clause-above c = rw (c.from.ensures, c.from-2.ensures) (λ i from h. above_in c.alone.result c.sending.result c.waiting.result (omega arith) (omega arith) i from (c.alone.ensures.above i from h))

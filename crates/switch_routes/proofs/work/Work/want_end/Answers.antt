use Rattle.std.proofs.Common.{arith}
use Rattle.switch_routes.proofs.GoesBy.{goes-then, goes-as, goes-nowhere}
use Rattle.switch_routes.proofs.Rules.{behind-none, behind-some, behind-wait}
use Rattle.switch_routes.proofs.work.Work.want_end.Goals as goal

pub returns-then-mask-eq0 : goal.returns-then-mask-eq0
returns-then-mask-eq0 c =
    goes-as 1 (λ begun m s. behind-none begun.routes begun.slot c.args.input c.args.dest c.args.mask m c.if-mask-eq0.true) c.lose.ensures

pub returns-in-Some : goal.returns-in-Some
returns-in-Some c =
    goes-as 1 (λ begun m s. behind-some begun.routes begun.slot c.args.input c.args.dest c.args.mask m c.in-Some.end c.if-mask-eq0.false (c.in-Some.ensures.value m.rec s.inputs))
    (goes-then 0 0 1 (omega arith) c.set.ensures c.out_step.ensures)

pub returns-in_default : goal.returns-in_default
returns-in_default c =
    goes-as 1 (λ begun m s. behind-wait begun.routes begun.slot c.args.input c.args.dest c.args.mask m c.if-mask-eq0.false (c.in_default.ensures.value m.rec s.inputs))
    (goes-nowhere 1 c.args.self.now)

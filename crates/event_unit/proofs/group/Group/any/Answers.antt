use Rattle.std.proofs.Common.{arith}
use Rattle.event_unit.proofs.First.{any_given}
use Rattle.event_unit.proofs.group.Group.any.Goals as goal

pub returns : goal.returns
returns g c is_ready agrees =
    any_given c.given_to.result c.args.ready c.args.th c.args.interrupt c.args.self.now c.given_to.ensures.given c.given_to.ensures.most is_ready (λ n h. agrees n (omega (arith, c.given_to.ensures.count, h))) (omega arith)

use Rattle.std.proofs.Common.{arith}
use Rattle.event_unit.proofs.First.{given_interrupts, given_events}
use Rattle.event_unit.proofs.group.Group.given_to.Goals as goal

pub returns-then-interrupt-clause-given : goal.returns-then-interrupt-clause-given
returns-then-interrupt-clause-given g c =
    rw (← c.self.view_is) (given_interrupts _ _ c.args.th c.self.inside.entries (omega arith) c.self.invariant.1 c.requires c.args.interrupt c.if-interrupt.true)

pub returns-else-interrupt-clause-given : goal.returns-else-interrupt-clause-given
returns-else-interrupt-clause-given g c =
    rw (← c.self.view_is) (given_events _ _ c.args.th c.self.inside.entries (omega arith) c.self.invariant.1 c.requires c.args.interrupt c.if-interrupt.false)

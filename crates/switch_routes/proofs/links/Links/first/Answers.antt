use Rattle.std.proofs.Common.{ap, arith}
use Rattle.switch_routes.specs.Rows.{buffer_of}
use Rattle.switch_routes.proofs.Places.{not_there, there}
use Rattle.switch_routes.proofs.links.Links.first.Goals as goal

pub returns-then-self-end : goal.returns-then-self-end
returns-then-self-end c =
    let is = there c.self.inside.present c.self.inside.ends.items c.args.end c.index-as_slice-end.result (omega (arith, c.self.invariant)) c.if-self-end.true (rw c.as_slice.ensures.value at c.index-as_slice-end.is) in
    rw (← c.self.view_is, is) (record { cases = c.first.ensures.cases })

pub returns-else-self-end : goal.returns-else-self-end
returns-else-self-end c =
    let none = not_there c.self.inside.present c.self.inside.ends.items c.args.end c.if-self-end.false in
    rw (← c.self.view_is) (record { cases = ap buffer_of none })

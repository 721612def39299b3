use Rattle.std.proofs.Common.{ap, sym, ◌∙◌, arith}
use Rattle.switch_routes.specs.Rows.{may_send_by}
use Rattle.switch_routes.proofs.Places.{not_there, there}
use Rattle.switch_routes.proofs.Rows.{sends-there, sends-none}
use Rattle.switch_routes.specs.Inside.{ends_in}
use Rattle.switch_routes.proofs.links.Links.can_send.Goals as goal

pub returns-then-self-end-clause-value : goal.returns-then-self-end-clause-value
returns-then-self-end-clause-value c =
    let is = there c.self.inside.present c.self.inside.ends.items c.args.end c.index-as_slice-end.result (omega (arith, c.self.invariant)) c.if-self-end.true (rw c.as_slice.ensures.value at c.index-as_slice-end.is) in
    rw (← c.self.view_is) (c.can_send.ensures.value ∙ sym (ap (may_send_by c.args.slot) is))

pub returns-then-self-end-clause-stands : goal.returns-then-self-end-clause-stands
returns-then-self-end-clause-stands c =
    let is = there c.self.inside.present c.self.inside.ends.items c.args.end c.index-as_slice-end.result (omega (arith, c.self.invariant)) c.if-self-end.true (rw c.as_slice.ensures.value at c.index-as_slice-end.is) in
    rw (← c.self.view_is) (λ routes links gaps of by. sends-there routes (ends_in c.self.inside.present c.self.inside.ends.items) links c.args.end c.args.slot c.index-as_slice-end.result c.can_send.result gaps is c.can_send.ensures.stands of by)

pub returns-else-self-end-clause-value : goal.returns-else-self-end-clause-value
returns-else-self-end-clause-value c =
    let none = not_there c.self.inside.present c.self.inside.ends.items c.args.end c.if-self-end.false in
    rw (← c.self.view_is) (c.if-self-end.false ∙ sym (ap (may_send_by c.args.slot) none))

pub returns-else-self-end-clause-stands : goal.returns-else-self-end-clause-stands
returns-else-self-end-clause-stands c =
    let none = not_there c.self.inside.present c.self.inside.ends.items c.args.end c.if-self-end.false in
    rw (← c.self.view_is) (λ routes links gaps of by. c.if-self-end.false ∙ sends-none routes (ends_in c.self.inside.present c.self.inside.ends.items) links c.args.end c.args.slot none of)

use Rattle.std.proofs.Common.{◌≡◌, ◌∙◌, sym, subst, rules, arith}
use Rattle.link_ends.specs.States.{absent_end, IsEndState}
use Rattle.switch_routes.proofs.Places.{not_there, there, length-ends_in}
use Rattle.switch_routes.proofs.States.{absent-fits}
use Rattle.switch_routes.proofs.links.Links.state_at.Goals as goal

pub returns-then-self-end : goal.returns-then-self-end
returns-then-self-end c =
    let present = c.self.inside.present in
    let ends = c.self.inside.ends.items in
    let is = there present ends c.args.end c.index-as_slice-end.result (omega (arith, c.self.invariant)) c.if-self-end.true (rw c.as_slice.ensures.value at c.index-as_slice-end.is) in
    rw (← c.self.view_is, is) (record { value = c.state.ensures.value; facts = c.state.ensures.facts; count = length-ends_in present ends (omega (arith, c.self.invariant)) ∙ c.self.invariant.eight })

pub returns-else-self-end : goal.returns-else-self-end
returns-else-self-end c =
    let present = c.self.inside.present in
    let ends = c.self.inside.ends.items in
    let none = not_there present ends c.args.end c.if-self-end.false in
    let absent : c.default.result ≡ absent_end = search rules in
    rw (← c.self.view_is, none) (record { value = absent; facts = subst IsEndState (sym absent) absent-fits; count = length-ends_in present ends (omega (arith, c.self.invariant)) ∙ c.self.invariant.eight })

use Rattle.std.proofs.Common.{◌∙◌, sym, ap, arith, Some}
use Rattle.std.proofs.lemmas.List.{get_or_read}
use Rattle.xs_model.specs.Record.{not_enabled}
use Rattle.event_unit.proofs.First.{listed_given, first_given, none_given}
use Rattle.event_unit.proofs.group.Group.first.Goals as goal

pub listed : goal.listed
listed g c =
    listed_given c.given_to.result c.args.ready c.args.th c.args.interrupt c.self.inside.entries (rw c.self.view_is c.given_to.ensures.given) c.self.invariant.0 c.lowest.result c.lowest.ensures.within c.lowest.ensures.is

pub bounds-self-inside-lowest : goal.bounds-self-inside-lowest
bounds-self-inside-lowest g c = omega (arith, c.self.told, listed g c)

pub returns-then-given-eq0 : goal.returns-then-given-eq0
returns-then-given-eq0 g c is_ready agrees =
    rw (← c.self.view_is) (sym (none_given c.given_to.result c.args.ready c.args.th c.args.interrupt c.self.inside.entries (rw c.self.view_is c.given_to.ensures.given) c.self.invariant.0 is_ready (λ n h. agrees n (omega (arith, c.self.told, h))) c.if-given-eq0.true))

pub returns-else-given-eq0 : goal.returns-else-given-eq0
returns-else-given-eq0 g c is_ready agrees =
    let listed = listed_given c.given_to.result c.args.ready c.args.th c.args.interrupt c.self.inside.entries (rw c.self.view_is c.given_to.ensures.given) c.self.invariant.0 c.lowest.result c.lowest.ensures.within c.lowest.ensures.is in
    rw (← c.self.view_is) (
    ap Some (sym c.index-self-lowest.is ∙ get_or_read c.self.inside.entries _ _ listed c.index-self-lowest.is not_enabled)
    ∙ sym (first_given c.given_to.result c.args.ready c.args.th c.args.interrupt c.self.inside.entries (rw c.self.view_is c.given_to.ensures.given) c.self.invariant.0 is_ready (λ n h. agrees n (omega (arith, c.self.told, h))) c.lowest.result c.lowest.ensures.within c.lowest.ensures.is c.lowest.ensures.least)
    )

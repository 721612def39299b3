use Rattle.std.proofs.Common.{◌∙◌, ◌≡◌, ◌<◌, Some, length, get_or, true, false, ap, sym, refl, arith}
use Rattle.std.specs.Prelude.{unwrap_or}
use borrow.Follows.Closed.{read_of}
use Rattle.std.specs.Option.{ghost_name_of}
use Rattle.std.proofs.lemmas.List.{length-set}
use Rattle.link_ends.specs.Counts.{EndCounts}
use Rattle.switch_routes.proofs.Marks.{marked-set, marked-more}
use Rattle.switch_routes.specs.Inside.{ends_in}
use Rattle.switch_routes.proofs.Places.{ends_in-change, length-ends_in, end_cases, not_there, has_place}
use Rattle.switch_routes.proofs.links.Links.end.Goals as goal

pub returns-then-unwrap_or : goal.returns-then-unwrap_or
returns-then-unwrap_or c =
    let present = c.self.inside.present in
    let ends = c.self.inside.ends.items in
    let e = c.args.end in
    let is : get_or present e false ≡ true = sym (c.get.ensures.lookup.4 (omega arith) false) ∙ ap (λ o. unwrap_or o false) (sym c.copied.ensures) ∙ sym c.unwrap_or.ensures ∙ c.if-unwrap_or.true in
    let below : e < length ends = omega (arith, has_place present e is, c.self.invariant) in
    rw (← c.self.view_is) (
      λ t. read_of (ghost_name_of c.get_mut.result) (λ (w : EndCounts). ends_in-change present ends e w is t) (ends_in present ends),
      record { writes_back = tt; none_past = λ past. absurd (omega (arith, has_place present e is, c.self.invariant)); cases = end_cases c.get_mut.result present ends e below is c.get_mut.ensures.variant c.get_mut.ensures.value; count = length-ends_in present ends (omega (arith, c.self.invariant)) ∙ c.self.invariant.eight },
    )

pub returns-else-unwrap_or : goal.returns-else-unwrap_or
returns-else-unwrap_or c =
    let present = c.self.inside.present in
    let ends = c.self.inside.ends.items in
    let is : get_or present c.args.end false ≡ false = sym (c.get.ensures.lookup.4 (omega arith) false) ∙ ap (λ o. unwrap_or o false) (sym c.copied.ensures) ∙ sym c.unwrap_or.ensures ∙ c.if-unwrap_or.false in
    rw (← c.self.view_is) (refl, record { writes_back = tt; none_past = λ past. refl; cases = not_there present ends c.args.end is; count = length-ends_in present ends (omega (arith, c.self.invariant)) ∙ c.self.invariant.eight })

pub invariant_of-self-lent : goal.invariant_of-self-lent
invariant_of-self-lent c =
    let present = c.self.inside.present in
    let ends = c.self.inside.ends.items in
    let e = c.args.end in
    let is : get_or present e false ≡ true = sym (c.get.ensures.lookup.4 (omega arith) false) ∙ ap (λ o. unwrap_or o false) (sym c.copied.ensures) ∙ sym c.unwrap_or.ensures ∙ c.if-unwrap_or.true in
    let marks = c.with_mark-self-inside.ensures in
    λ lent. (
      λ w. record {
        places = c.self.invariant.places;
        eight = length-set ends e w ∙ c.self.invariant.eight;
        marked = rw (ends_in-change present ends e w is) (marked-set c.self.inside.waiting c.with_mark-self-inside.result e (ends_in present ends) (Some w) c.self.invariant.marked marks.added marks.others);
      },
      record {
        places = c.self.invariant.places;
        eight = c.self.invariant.eight;
        marked = marked-more c.self.inside.waiting c.with_mark-self-inside.result e (ends_in present ends) c.self.invariant.marked marks.added marks.others;
      },
    )

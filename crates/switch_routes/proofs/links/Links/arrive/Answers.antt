use Rattle.std.proofs.Common.{ap, sym, ◌∙◌, Some, refl}
use Rattle.net_model.specs.Links.{link_after_arrivals, token_arrives}
use Rattle.switch_routes.proofs.Marks.{marked-same}
use Rattle.switch_routes.proofs.Rows.{change-there, change-none, gaps-set}
use Rattle.switch_routes.specs.Rows.{end_gap, buffer_of}
use Rattle.switch_routes.proofs.links.Links.arrive.Goals as goal

pub invariant_of-self : goal.invariant_of-self
invariant_of-self c = record {
  places = c.self-then-is_none.invariant.places;
  eight = c.self-then-is_none.invariant.eight;
  marked = rw c.self-then-is_none.view_is (marked-same c.self.inside.waiting c.args.end c.args.self.now (Some c.count.new.link) (rw (← c.self.view_is) c.self.invariant.marked)
      (c.count.ensures.buffer ∙ c.receive.ensures.none c.if-is_none.ensures ∙ sym (ap buffer_of c.in-Some.ensures.cases)));
}

pub returns-then-is_none-clause-stands : goal.returns-then-is_none-clause-stands
returns-then-is_none-clause-stands c =
    rw c.self-then-is_none.view_is (λ slot links of.
    change-there (link_after_arrivals slot c.args.token c.args.credit) c.args.self.now links c.args.end c.in-Some.link.now c.count.new.link c.in-Some.ensures.cases
    (λ link is. c.count.ensures.stands (token_arrives c.args.token link) slot (c.receive.ensures.stands link is)) of)

pub returns-then-is_none-clause-gaps : goal.returns-then-is_none-clause-gaps
returns-then-is_none-clause-gaps c =
    rw c.self-then-is_none.view_is (gaps-set c.args.self.now c.args.end (Some c.count.new.link) (c.count.ensures.gap ∙ c.receive.ensures.gap ∙ sym (ap end_gap c.in-Some.ensures.cases)))

pub returns-else-is_none-clause-stands : goal.returns-else-is_none-clause-stands
returns-else-is_none-clause-stands c =
    λ slot links of.
    change-there (link_after_arrivals slot c.args.token c.args.credit) c.args.self.now links c.args.end c.in-Some.link.now c.count.new.link c.in-Some.ensures.cases
    (λ link is. c.count.ensures.stands (token_arrives c.args.token link) slot (c.receive.ensures.stands link is)) of

pub returns-else-is_none-clause-gaps : goal.returns-else-is_none-clause-gaps
returns-else-is_none-clause-gaps c =
    gaps-set c.args.self.now c.args.end (Some c.count.new.link) (c.count.ensures.gap ∙ c.receive.ensures.gap ∙ sym (ap end_gap c.in-Some.ensures.cases))

pub returns-in_default-clause-stands : goal.returns-in_default-clause-stands
returns-in_default-clause-stands c =
    λ slot links of. change-none (link_after_arrivals slot c.args.token c.args.credit) c.args.self.now links c.args.end c.in_default.ensures.cases refl of

use Rattle.std.proofs.Common.{ap, sym, ◌∙◌, Some}
use Rattle.net_model.specs.Switch.{sent_in}
use Rattle.switch_routes.proofs.Rows.{change-there, gaps-set, sent-now}
use Rattle.link_ends.specs.Counts.{EndCounts}
use Rattle.switch_routes.specs.Rows.{end_gap, buffer_of}
use Rattle.switch_routes.proofs.Marks.{marked-same}
use Rattle.switch_routes.proofs.links.Links.sent.Goals as goal

pub returns-in-Some-clause-stands : goal.returns-in-Some-clause-stands
returns-in-Some-clause-stands c =
    rw c.self-in-Some.view_is (λ links of.
    change-there (sent_in c.args.slot) c.args.self.now links c.args.end c.in-Some.link.now c.sent.new.self c.in-Some.ensures.cases c.sent.ensures.stands of)

pub returns-in-Some-clause-gaps : goal.returns-in-Some-clause-gaps
returns-in-Some-clause-gaps c =
    rw c.self-in-Some.view_is (gaps-set c.args.self.now c.args.end (Some c.sent.new.self) (ap (λ (w : EndCounts). w.gap) c.sent.ensures.noted ∙ sym (ap end_gap c.in-Some.ensures.cases)))

pub returns-in-Some-clause-sent : goal.returns-in-Some-clause-sent
returns-in-Some-clause-sent c = rw c.self-in-Some.view_is (λ by. sent-now c.args.self.now c.args.end c.args.slot c.sent.new.self (ap (λ (w : EndCounts). w.last_sent) c.sent.ensures.noted) by)

pub invariant_of-self : goal.invariant_of-self
invariant_of-self c = record {
  places = c.self-in-Some.invariant.places;
  eight = c.self-in-Some.invariant.eight;
  marked = rw c.self-in-Some.view_is (marked-same c.self.inside.waiting c.args.end c.args.self.now (Some c.sent.new.self) (rw (← c.self.view_is) c.self.invariant.marked)
      (ap (λ (w : EndCounts). w.buffer) c.sent.ensures.noted ∙ sym (ap buffer_of c.in-Some.ensures.cases)));
}

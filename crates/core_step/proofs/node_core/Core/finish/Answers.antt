use Rattle.std.proofs.Common.{sym, subst}
use Rattle.switch_routes.specs.Rows.{SentBy}
use Rattle.core_step.specs.Core.{CoreValue}
use Rattle.core_step.specs.ToIssue.{EndsSlot}
use Rattle.core_step.proofs.Ends.{Issues, value_after, ends}
use Rattle.core_step.proofs.node_core.Core.finish.Goals as goal
use Rattle.core_step.proofs.node_core.Core.finish.Goals.{After-issue}

abbrev its : (c : After-issue) → Issues c.self.inside c.args.slot c.args.pins.now c.args.out.now
its c = record {
  node = c.self.invariant.node;
  sent = subst (λ (v : CoreValue). SentBy c.args.slot v.links) (sym c.self.view_is) c.requires.sent;
  after = c.issue.new.self;
  out = c.issue.new.out;
  issue = c.issue.ensures.units;
  events = c.issue.ensures.events;
}

pub returns : goal.returns
returns c =
    let d = (goal.at.returns c).After-issue in
    let a = d.args in
    let after = value_after d.self.inside a.slot a.pins.now a.out.now (its d) c.note.new.self in
    record {
      ends =
          subst (λ (v : CoreValue). EndsSlot a.slot a.pins.now v a.out.now after d.issue.new.out) d.self.view_is
          (ends d.self.inside a.slot a.pins.now a.out.now (its d) c.note.new.self c.note.ensures.levels);
    }

use Rattle.std.proofs.Common.{sym, ap, subst, ◌∙◌}
use Rattle.xs_model.specs.Outside.{Emitted}
use Rattle.xs_model.specs.Ports.{edges_from}
use Rattle.processor.specs.Issue.{and_happened}
use Rattle.core_step.specs.Core.{CoreValue, SlotsBefore}
use Rattle.core_step.specs.ToIssue.{ReachesIssue}
use Rattle.core_step.proofs.ToIssue.{GoesToIssue, value_to_issue, reaches}
use Rattle.core_step.proofs.node_core.Core.to_issue.Goals as goal
use Rattle.core_step.proofs.node_core.Core.to_issue.Goals.{After-bring}

abbrev goes : (c : After-bring) → GoesToIssue c.self.inside c.args.slot c.args.arrivals.now c.args.pins.now
goes c =
    let slot = c.args.slot in
    let units = c.self.inside.units in
    record {
      before = subst (λ (v : CoreValue). SlotsBefore v slot) (sym c.self.view_is) c.requires.before;
      high = c.high_before-high.result;
      strobes = c.high_before-high.ensures;
      edged_core = c.edges.new.self;
      edged_out = c.edges.new.out;
      ports = c.edges.ensures.ports;
      edges =
          λ levels high.
          c.edges.ensures.events levels high
          ∙ ap (λ (out : Emitted). and_happened out slot (edges_from slot units.clocks levels 0 units.ports c.args.pins.now.level).happened) c.clear.ensures;
      network = c.bring.new.self;
      brought = c.bring.new.units;
      brought_out = c.bring.new.out;
      brings = c.bring.ensures.brings;
      units = c.bring.ensures.units;
      routes = c.bring.ensures.routes;
      sent = c.bring.ensures.sent;
    }

pub returns-clause-reaches : goal.returns-clause-reaches
returns-clause-reaches c =
    let d = (goal.at.returns-clause-reaches c).After-bring in
    let a = d.args in
    let its = goes d in
    subst (λ (v : CoreValue). ReachesIssue a.slot a.arrivals.now a.pins.now v (value_to_issue d.self.inside a.slot a.arrivals.now a.pins.now its) d.bring.new.out) d.self.view_is
    (reaches d.self.inside a.slot a.arrivals.now a.pins.now its)

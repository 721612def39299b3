use Rattle.std.proofs.Common.{◌≡◌, List, length, sym, ap, ◌∙◌, subst}
use Rattle.std.specs.Prelude.{IfOk}
use Rattle.xs_model.specs.declared.event.Event.{Event}
use Rattle.trace_merge.specs.Nodes.{events_of}
use Rattle.snap_run.specs.RunsOn.{RunOnRec, end_of_run}
use Rattle.snap_run.proofs.Rests.{nodes_many, told_kept}
use Rattle.snap_run.proofs.went_on.RunOn.kept.Goals as goal

pub cut_all-requires : goal.cut_all-requires
cut_all-requires c = record {
  nodes = ap length c.nodes.ensures.value ∙ nodes_many c.self.inside.machine c.self.inside.snap.now c.self.invariant ∙ sym c.in_ok-events.ensures.nodes;
}

pub returns-clause-kept : goal.returns-clause-kept
returns-clause-kept c =
    let told =
    told_kept c.self.inside.machine c.self.inside.snap.now c.self.invariant c.nodes.result.now c.in_ok-events.events.items c.nodes.ensures.value c.in_ok-events.ensures.keeps
    ∙ ap (λ (r : RunOnRec). (end_of_run r).kept) c.self.view_is in
    subst (λ (kept : List (List Event)). IfOk c.cut_all.result (λ v. events_of v.items ≡ kept)) told c.cut_all.ensures.cut

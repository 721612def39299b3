use Rattle.std.proofs.Common.{◌≡◌, ℕ, ◌++◌, List, ap, ◌∙◌}
use Rattle.std.proofs.lemmas.Result.{on_ok_weaker}
use Rattle.trace_lines.specs.Kept.{KeptEvents}
use Rattle.trace_merge.specs.Nodes.{events_of}
use Rattle.sys_plan.specs.declared.NodePlan.{NodePlan}
use Rattle.trace_model.specs.EventOrder.{Placed, merged}
use Rattle.trace_model.specs.Trace.{event_lines, events_in_order}
use Rattle.trace_text.proofs.whole_trace.append_events.Goals as goal

same-lines : (nodes nodes' : List NodePlan) (events events' : List Placed) (out after : List ℕ) → nodes ≡ nodes' → events ≡ events' → after ≡ out ++ event_lines nodes events → after ≡ out ++ event_lines nodes' events'
same-lines nodes nodes' events events' out after same_nodes same_events added =
    added
    ∙ (ap (λ (ns : List NodePlan). out ++ event_lines ns events) same_nodes
    ∙ ap (λ (es : List Placed). out ++ event_lines nodes' es) same_events)

pub returns : goal.returns
returns g c =
    let plan = c.args.plan.now in
    let end = g.R.EndedRun.end c.args.run in
    let out = c.args.out.now in
    let in_order : c.list.result.now ≡ events_in_order end =
    c.list.ensures.value
    ∙ (c.in_ok-merged.ensures.order
    ∙ (ap (λ (nodes : List KeptEvents). merged (events_of nodes)) c.deref.ensures.value
    ∙ ap merged c.in_ok-events.ensures.kept)) in
    on_ok_weaker c.append_event_lines.result
    (same-lines c.nodes-nodes.result.now plan.nodes c.list.result.now (events_in_order end) out c.append_event_lines.new.out c.nodes-nodes.ensures.value in_order)
    c.append_event_lines.ensures

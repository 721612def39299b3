use Rattle.std.proofs.Common.{◌≡◌, ◌++◌, ◌*◌, drop}
use Rattle.sys_plan.specs.Plan.{link_arcs}
use Rattle.trace_model.specs.Trace.{by_position, traffic_at}
use Rattle.trace_text.proofs.whole_trace.append_links.Given as goal

abbrev pub invariant-loop-k : goal.invariant-loop-k
invariant-loop-k g l =
    l.out ++ by_position (traffic_at l.nodes (g.R.EndedRun.end l.run)) (2 * l.k) (link_arcs (drop l.k l.links))
    ≡ l.initial.out ++ by_position (traffic_at l.nodes (g.R.EndedRun.end l.run)) 0 (link_arcs l.links)

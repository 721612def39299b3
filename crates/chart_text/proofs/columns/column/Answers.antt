use Rattle.std.proofs.Common.{ℕ, ◌+◌, List, ◌++◌, drop, length, refl, ap, ◌∙◌}
use Rattle.std.proofs.lemmas.Option.{slice_get_read}
use Rattle.trace_model.specs.Trace.{by_position}
use Rattle.chart_model.specs.Columns.{node_column}
use Rattle.chart_text.proofs.Walk.{one-more}
use Rattle.chart_text.proofs.columns.column.Goals as goal

pub loop-n-preserved : goal.loop-n-preserved
loop-n-preserved c =
    let nodes = c.args.nodes.now in
    let n = c.loop-n.n in
    let node = c.index-nodes-n.result in
    let column = node_column c.args.run.now.plan c.args.slot in
    ap (λ (text : List ℕ). text ++ by_position column (n + 1) (drop (n + 1) nodes)) c.in_ok-append_node.ensures
    ∙ one-more column nodes n node c.loop-n.out (slice_get_read nodes (length nodes) n node refl c.loop-n-test.true c.index-nodes-n.is) ∙ c.loop-n.invariant

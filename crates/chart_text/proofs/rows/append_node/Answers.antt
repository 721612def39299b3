use Rattle.std.proofs.Common.{ℕ, ◌≡◌, ◌++◌, ap, ◌∙◌, arith}
use Rattle.chart_model.specs.declared.TheConstants.{ROWS}
use Rattle.chart_model.specs.Chart.{node_rows}
use Rattle.chart_text.proofs.rows.append_node.Goals as goal

pub returns : goal.returns
returns c =
    let all : c.loop-i.i ≡ ROWS = omega (arith, c.loop-i-test.false, c.loop-i.auto.i-end) in
    c.loop-i.invariant ∙ ap (λ (k : ℕ). c.args.out.now ++ node_rows c.args.columns.now c.args.n c.args.node.now k) all

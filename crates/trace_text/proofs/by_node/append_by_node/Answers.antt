use Rattle.std.proofs.Common.{arith}
use Rattle.trace_text.proofs.ByPosition.{position_more, position_done}
use Rattle.trace_text.proofs.by_node.append_by_node.Goals as goal

pub loop-k-preserved : goal.loop-k-preserved
loop-k-preserved g c =
    let end = g.R.EndedRun.end c.args.run.now in
    position_more (g.P.NodePiece.piece end) c.loop-k.k c.args.nodes.now _ c.index-nodes-k.result _ _ _ (omega arith) c.index-nodes-k.is c.in_ok-append_at.ensures c.loop-k.invariant

pub returns : goal.returns
returns g c =
    let end = g.R.EndedRun.end c.args.run.now in
    position_done (g.P.NodePiece.piece end) c.loop-k.k c.args.nodes.now _ _ (omega arith) c.loop-k.invariant

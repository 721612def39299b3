use Rattle.std.proofs.Common.{◌≡◌, ◌++◌, drop}
use Rattle.trace_model.specs.Trace.{by_position}
use Rattle.trace_text.proofs.by_node.append_by_node.Given as goal

abbrev pub invariant-loop-k : goal.invariant-loop-k
invariant-loop-k g l =
    l.out ++ by_position (g.P.NodePiece.piece (g.R.EndedRun.end l.run)) l.k (drop l.k l.nodes)
    ≡ l.initial.out ++ by_position (g.P.NodePiece.piece (g.R.EndedRun.end l.run)) 0 l.nodes

use Rattle.load_maker.proofs.Pieces.{piece_more}
use Rattle.load_maker.proofs.by_node.append_by_node.Goals as goal

pub loop-i-preserved : goal.loop-i-preserved
loop-i-preserved g c = piece_more (g.P.NodeLines.text c.args.number) c.loop-i.i c.args.nodes _ _ _ c.loop-i-test.true c.in_ok-append.ensures c.loop-i.invariant

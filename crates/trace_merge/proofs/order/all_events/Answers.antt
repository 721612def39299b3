use Rattle.std.proofs.Common.{length, arith}
use Rattle.trace_merge.proofs.Told.{told-more, within-more, of_nodes-more}
use Rattle.trace_merge.proofs.order.all_events.Goals as goal

pub loop-k-preserved : goal.loop-k-preserved
loop-k-preserved c =
    let added = c.in_ok-append_told.ensures in
    let node = c.index-nodes-k.result in
    record {
      all = told-more c.loop-k.k c.args.nodes.now node node _ _ _ _ (omega arith) c.index-nodes-k.is c.events.ensures.value added c.loop-k.invariant.all;
      within = within-more c.loop-k.k _ _ _ added c.loop-k.invariant.within c.events.ensures.within;
      positions = of_nodes-more (length c.args.nodes.now) c.loop-k.k _ _ _ added (omega arith) c.loop-k.invariant.positions;
    }

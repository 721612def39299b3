use Rattle.std.proofs.Common.{length, refl, arith}
use Rattle.serial_model.specs.Serial.{serial}
use Rattle.trace_model.specs.Trace.{events_at}
use Rattle.made_text.proofs.Sums.{sum_more}
use Rattle.made_text.proofs.totals.all_events.Goals as goal

pub loop-node-preserved : goal.loop-node-preserved
loop-node-preserved c =
    let run = c.args.finished.now in
    let system = serial run.plan run.limit in (
      sum_more (λ k. length (events_at system k)) c.loop-node.node _ _ _ _ _ c.loop-node-test.true (c.count_of-events.ensures.count _ c.events.ensures.keeps) refl c.loop-node.invariant.0,
      omega (arith, c.loop-node.invariant.1, c.count_of-events.ensures.most),
    )

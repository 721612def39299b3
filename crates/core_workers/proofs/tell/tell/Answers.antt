use Rattle.std.proofs.Common.{◌≤◌, sym, ◌∙◌, arith}
use Rattle.core_workers.proofs.Telling.{sent_is}
use Rattle.core_workers.proofs.tell.tell.Goals as goal

pub try_publish-requires-clause-own : goal.try_publish-requires-clause-own
try_publish-requires-clause-own c =
    let runner = c.args.runner.now in
    let writer = c.args.writer.now in
    let behind : writer.w.end.published ≤ c.clock-clock.result = omega (arith, c.requires.is_told, c.clock-clock.ensures.behind writer.end) in
    sent_is runner.plan writer.w.end.run writer.link writer.w.end.number _ writer.w.end.published c.clock-clock.result runner.clock c.send-batch.result.entries
    (c.requires.of_plan ∙ sym c.requires.fit.run) (sym c.requires.fit.number) c.requires.is_told (sym c.clock-clock.ensures.value) behind
    (c.send-batch.ensures.own writer.link c.requires.route)

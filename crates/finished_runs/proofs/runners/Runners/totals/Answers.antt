use Rattle.std.proofs.Common.{◌<◌, ap, ◌∙◌, arith}
use Rattle.sys_plan.specs.Plan.{arc_count}
use Rattle.serial_model.specs.Serial.{history}
use Rattle.trace_model.specs.Trace.{tokens_sent, credits_sent}
use Rattle.finished_runs.specs.Limit.{AtLimitRec}
use Rattle.finished_runs.proofs.Nodes.{sent_at}
use Rattle.finished_runs.proofs.runners.Runners.totals.Goals as goal

pub index-sent-requires : goal.index-sent-requires
index-sent-requires c = omega (arith, c.self.invariant.at_limit.links, ap (λ (g : AtLimitRec). arc_count g.plan) c.self.view_is)

pub returns : goal.returns
returns c =
    let plan = c.self.inside.plan.value in
    let limit = c.self.inside.limit in
    let sent = c.index-sent.result.now in
    let below : c.args.link < arc_count plan = omega (arith, ap (λ (g : AtLimitRec). arc_count g.plan) c.self.view_is) in
    let has = sent_at plan limit c.self.inside.runners.items c.self.inside.totals.items c.self.invariant.at_limit c.args.link sent below c.index-sent.ensures in
    record {
      tokens = has.tokens ∙ ap (λ (g : AtLimitRec). tokens_sent (history g.plan c.args.link 0 g.limit)) c.self.view_is;
      credits = has.credits ∙ ap (λ (g : AtLimitRec). credits_sent (history g.plan c.args.link 0 g.limit)) c.self.view_is;
    }

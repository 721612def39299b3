use Rattle.std.proofs.Common.{◌≡◌, ◌<◌, length, sym, ap, ◌∙◌, subst, arith}
use Rattle.std.proofs.lemmas.List.{length-map}
use Rattle.sys_plan.specs.Plan.{arc_count}
use Rattle.trace_model.specs.Trace.{sent_on}
use Rattle.run_plan.proofs.Through.{all-at}
use Rattle.snap_parts.specs.Parts.{seen}
use Rattle.snap_run.specs.RunsOn.{RunOnRec, end_of_run}
use Rattle.snap_run.proofs.Bounds.{FewSent, body_few}
use Rattle.snap_run.proofs.Rests.{log_at, logs_many, told_sent}
use Rattle.snap_run.proofs.went_on.RunOn.sent.Goals as goal

pub bounds-logs-link : goal.bounds-logs-link
bounds-logs-link c =
    let snap = c.self.inside.snap.now in
    omega (
      arith,
      ap length c.logs-logs.ensures.value,
      length-map c.logs-logs.result.now seen,
      logs_many c.self.inside.machine snap c.self.invariant,
      ap (λ (r : RunOnRec). arc_count r.plan) c.self.view_is,
      c.requires.link,
    )

pub overflow_add-result : goal.overflow_add-result
overflow_add-result c =
    let m = c.self.inside.machine in
    let snap = c.self.inside.snap.now in
    let log = c.index-logs-link.result in
    let inside : c.args.link < length snap.body.logs = omega (arith, logs_many m snap c.self.invariant, ap (λ (r : RunOnRec). arc_count r.plan) c.self.view_is, c.requires.link) in
    let here = log_at c.logs-logs.result.now snap.body.logs c.args.link log c.logs-logs.ensures.value c.index-logs-link.is in
    let few = subst FewSent here (all-at FewSent snap.body.logs c.args.link (seen log) (body_few m.plan snap.body c.self.invariant.is.body).logs inside) in
    omega (arith, few.tokens, c.count_from-sent.ensures.few_tokens)

pub overflow_add-result-2 : goal.overflow_add-result-2
overflow_add-result-2 c =
    let m = c.self.inside.machine in
    let snap = c.self.inside.snap.now in
    let log = c.index-logs-link.result in
    let inside : c.args.link < length snap.body.logs = omega (arith, logs_many m snap c.self.invariant, ap (λ (r : RunOnRec). arc_count r.plan) c.self.view_is, c.requires.link) in
    let here = log_at c.logs-logs.result.now snap.body.logs c.args.link log c.logs-logs.ensures.value c.index-logs-link.is in
    let few = subst FewSent here (all-at FewSent snap.body.logs c.args.link (seen log) (body_few m.plan snap.body c.self.invariant.is.body).logs inside) in
    omega (arith, few.credits, c.count_from-sent.ensures.few_credits)

pub returns : goal.returns
returns c =
    let m = c.self.inside.machine in
    let snap = c.self.inside.snap.now in
    let log = c.index-logs-link.result in
    let link = c.args.link in
    let inside : link < arc_count m.plan = omega (arith, ap (λ (r : RunOnRec). arc_count r.plan) c.self.view_is, c.requires.link) in
    let here = log_at c.logs-logs.result.now snap.body.logs link log c.logs-logs.ensures.value c.index-logs-link.is in
    record {
      value =
          told_sent m snap c.self.invariant link c.count_from-sent.result.0 c.count_from-sent.result.1 c.slot.result (seen log) c.history.result.now inside here
          c.history.ensures.value c.slot.ensures.value c.count_from-sent.ensures.tokens c.count_from-sent.ensures.credits
          ∙ ap (λ (r : RunOnRec). sent_on (end_of_run r) link) c.self.view_is;
    }

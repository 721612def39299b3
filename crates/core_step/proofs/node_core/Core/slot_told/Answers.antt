use Rattle.std.proofs.Common.{subst, ap, ◌∙◌}
use Rattle.xs_model.specs.Record.{CoreRec}
use Rattle.xs_model.specs.Outside.{Emitted}
use Rattle.xs_model.specs.Picks.{is_able}
use Rattle.processor.specs.NextIssue.{next_issue}
use Rattle.core_step.specs.Core.{CoreValue, Passes}
use Rattle.core_step.specs.ToIssue.{EndsSlot}
use Rattle.core_step.specs.Told.{has_trap}
use Rattle.core_step.proofs.Ends.{passes}
use Rattle.core_step.proofs.node_core.Core.slot_told.Goals as goal

pub returns : goal.returns
returns c =
    let slot = c.args.slot in
    let reached = c.to_issue.ensures.reaches in
    let same = c.next_issue-issue.ensures.unchanged ∙ c.able_threads-able.ensures.unchanged in
    let ended = subst (λ (v : CoreValue). EndsSlot slot c.args.pins.now v c.to_issue.new.out c.finish.new.self c.finish.new.out) same c.finish.ensures.ends in
    let passed : Passes slot c.args.arrivals.now c.args.pins.now c.args.self.now c.finish.new.self c.finish.new.out =
    passes slot c.args.arrivals.now c.args.pins.now _ _ _ _ _ reached ended
    in
    record {
      passes = passed;
      told =
          λ rec at.
          let core = (reached.stands rec at).core in
          record {
            able = λ k below. c.able_threads-able.ensures.value k below ∙ ap (λ (units : CoreRec). is_able units k slot) core;
            issue =
                c.next_issue-issue.ensures.value
                ∙ ap (λ (v : CoreValue). next_issue v.core slot) c.able_threads-able.ensures.unchanged
                ∙ ap (λ (units : CoreRec). next_issue units slot) core;
            within = c.next_issue-issue.ensures.within;
            traps =
                c.has_trap.ensures
                ∙ ap has_trap c.events.ensures.value
                ∙ ap (λ (out : Emitted). has_trap out.events) (passed.emissions rec at);
          };
    }

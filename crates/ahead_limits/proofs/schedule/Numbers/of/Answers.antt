-- A step leaves the numbers of one step more, and the last one those of all.
use Rattle.std.proofs.Common.{arith, subst, sym, ap, List, length, ◌≤◌}
use Rattle.sys_plan.specs.declared.Step.{Step}
use Rattle.ahead_limits.specs.Schedule.{IsOfPlan, schedule_at_start, after_steps}
use Rattle.ahead_limits.proofs.Steps.{lengths_stay, one_more, no_more}
use Rattle.ahead_limits.proofs.schedule.Numbers.of.Goals as goal

pub loop-step-preserved : goal.loop-step-preserved
loop-step-preserved c = record {
  steps = c.loop-step.invariant.steps;
  lengths = subst (IsOfPlan c.args.plan.now) (sym c.step.ensures) (lengths_stay c.args.plan.now c.args.limit c.loop-step.numbers _ c.loop-step.invariant.lengths);
  rest = one_more c.args.plan.now c.args.limit c.loop-step.numbers c.step.new.self
      (after_steps c.args.plan.now c.args.limit (schedule_at_start c.args.plan.now) c.args.plan.now.steps)
      c.steps-step-items.result.now c.args.plan.now.steps c.loop-step.step-index _ c.loop-step.invariant.steps c.loop-step-test.true c.step.ensures c.loop-step.invariant.rest;
}

pub returns : goal.returns
returns c = record {
  value =
      let past : length c.args.plan.now.steps ≤ c.loop-step.step-index = omega (arith, ap (λ (steps : List Step). length steps) c.loop-step.invariant.steps) in
      no_more c.args.plan.now c.args.limit c.loop-step.numbers
      (after_steps c.args.plan.now c.args.limit (schedule_at_start c.args.plan.now) c.args.plan.now.steps)
      c.args.plan.now.steps c.loop-step.step-index past c.loop-step.invariant.rest;
  lengths = c.loop-step.invariant.lengths;
}

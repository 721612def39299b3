use Rattle.std.proofs.Common.{◌≡◌, drop}
use Rattle.ahead_limits.specs.Schedule.{IsOfPlan, schedule_at_start, after_steps}
use Rattle.ahead_limits.proofs.schedule.Numbers.of.Given as goal

-- the numbers so far, carried over the steps that are left, are those after all
abbrev pub invariant-loop-step : goal.invariant-loop-step
invariant-loop-step l = record {
  steps : l.step-items ≡ l.plan.steps;
  lengths : IsOfPlan l.plan l.numbers;
  rest : after_steps l.plan l.limit l.numbers (drop l.step-index l.plan.steps) ≡ after_steps l.plan l.limit (schedule_at_start l.plan) l.plan.steps;
}

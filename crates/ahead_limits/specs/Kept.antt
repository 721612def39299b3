-- What every schedule keeps.
use Rattle.std.specs.Prelude.{◌≡◌, ◌+◌, ◌<◌, ◌≤◌, Some, List, slice_get, slice_index}
use Rattle.xs_base.specs.Numbers.{Slot, Position, LinkNumber, EndNumber}
use Rattle.sys_plan.specs.declared.system_plan.TheConstants.{ENDS}
use Rattle.sys_plan.specs.declared.Step.{Step}
use Rattle.sys_plan.specs.Plan.{PlanRec, Arc, arcs, incoming, delay_of}
use Rattle.ahead_limits.specs.Schedule.{ScheduleRec, IsOfPlan, schedule_at_start, after_step, after_steps}

-- the numbers of a plan, in a run of so many slots
pub record KeepsBounds (plan : PlanRec) (limit : Slot) (s : ScheduleRec) : Type 0 where
  pub lengths : IsOfPlan plan s
  -- no node has run more than the slots of the run
  pub within : (node : Position) → slice_index s.clocks node ≤ limit
  -- no more is seen of an arc than was published
  pub seen : (link : LinkNumber) → slice_index s.seen link ≤ slice_index s.published link
  -- no more is published of an arc than the node has run that it leaves
  pub behind : (link : LinkNumber) (d : Arc) → slice_get (arcs plan) link ≡ Some d → slice_index s.published link ≤ slice_index s.clocks d.from
  -- no node is further than what is seen of an arc that comes to it and the delay
  pub ahead : (node : Position) (end : EndNumber) (link : LinkNumber) → end < ENDS → incoming plan node end ≡ Some link
      → slice_index s.clocks node ≤ slice_index s.seen link + delay_of plan link

-- each number is at least what it was
pub record NoneFalls (before after : ScheduleRec) : Type 0 where
  pub clocks : (node : Position) → slice_index before.clocks node ≤ slice_index after.clocks node
  pub seen : (link : LinkNumber) → slice_index before.seen link ≤ slice_index after.seen link
  pub published : (link : LinkNumber) → slice_index before.published link ≤ slice_index after.published link

abbrev pub StepsKeepBounds : Type 0
StepsKeepBounds = (plan : PlanRec) (limit : Slot) (s : ScheduleRec) (step : Step) → KeepsBounds plan limit s → KeepsBounds plan limit (after_step plan limit s step)

abbrev pub NoStepFalls : Type 0
NoStepFalls = (plan : PlanRec) (limit : Slot) (s : ScheduleRec) (step : Step) → KeepsBounds plan limit s → NoneFalls s (after_step plan limit s step)

-- so the bounds hold after any steps from the start on
abbrev pub SchedulesKeepBounds : Type 0
SchedulesKeepBounds = (plan : PlanRec) (limit : Slot) (steps : List Step) → KeepsBounds plan limit (after_steps plan limit (schedule_at_start plan) steps)

-- What a play of a plan's schedule tells, step by step.
use Rattle.std.specs.Prelude.{Option, Some, None, List, [], ◌∷◌, slice_index}
use Rattle.xs_base.specs.Numbers.{Slot, LinkNumber}
use Rattle.xs_base.specs.declared.entry.Entry.{Entry}
use Rattle.sys_plan.specs.declared.Step.{Step}
use Rattle.sys_plan.specs.declared.Step.TheVariants.{Take, Run, Send}
use Rattle.sys_plan.specs.Plan.{PlanRec, outgoing, incoming}
use Rattle.serial_model.specs.Serial.{history}
use Rattle.ahead_limits.specs.Schedule.{ScheduleRec, schedule_at_start, after_step}

-- a step, the number that it leaves, and the entries that it publishes
pub record PlayedStep : Type 0 where
  pub step : Step
  pub number : Slot
  pub entries : List Entry

abbrev pub number_by : List Slot → Option LinkNumber → Slot
number_by numbers None = 0
number_by numbers (Some link) = slice_index numbers link

-- the number that a step leaves: of a take what is seen, of a run the clock, of a send what is published
abbrev pub number_after : PlanRec → Step → ScheduleRec → Slot
number_after plan (Take node end) after = number_by after.seen (incoming plan node end)
number_after plan (Run node count) after = slice_index after.clocks node
number_after plan (Send node end) after = number_by after.published (outgoing plan node end)

-- what an arc carried from its old published slot on and before the new one
abbrev pub sent_between : PlanRec → ScheduleRec → ScheduleRec → Option LinkNumber → List Entry
sent_between plan before after None = []
sent_between plan before after (Some link) = history plan link (slice_index before.published link) (slice_index after.published link)

-- what a step publishes: a send that, and the others nothing
abbrev pub published_by : PlanRec → Step → ScheduleRec → ScheduleRec → List Entry
published_by plan (Take node end) before after = []
published_by plan (Run node count) before after = []
published_by plan (Send node end) before after = sent_between plan before after (outgoing plan node end)

-- a step by the numbers before it and after it
abbrev pub played_step : PlanRec → Step → ScheduleRec → ScheduleRec → PlayedStep
played_step plan step before after = record { step = step; number = number_after plan step after; entries = published_by plan step before after }

-- steps in their order, from these numbers on, in a run of so many slots
unfoldable pub played_from : PlanRec → Slot → ScheduleRec → List Step → List PlayedStep
played_from plan limit s [] = []
played_from plan limit s (step ∷ steps) =
    played_step plan step s (after_step plan limit s step) ∷ played_from plan limit (after_step plan limit s step) steps

-- all steps of the plan
abbrev pub played : PlanRec → Slot → List PlayedStep
played plan limit = played_from plan limit (schedule_at_start plan) plan.steps

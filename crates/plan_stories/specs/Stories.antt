-- What an arc carries in the slots of the run of a plan.
use Rattle.std.specs.Prelude.{suc, List}
use Rattle.xs_base.specs.Numbers.{Slot, LinkNumber}
use Rattle.xs_base.specs.declared.entry.Entry.{Entry}
use Rattle.sys_plan.specs.Plan.{PlanRec}
use Rattle.serial_model.specs.Serial.{history}

-- what contracts see of a `PlanStory`: the plan, and the number of the arc
pub record StoryRec : Type 0 where
  pub plan : PlanRec
  pub link : LinkNumber

-- what an arc carries in one slot
abbrev pub carried_at : PlanRec → LinkNumber → Slot → List Entry
carried_at plan link slot = history plan link slot (suc slot)

-- What the logs of a plan's arcs have is what these links carry in the serial machine.
use Rattle.std.specs.Prelude.{◌≡◌, ◌≤◌}
use Rattle.xs_base.specs.Numbers.{Slot, LinkNumber}
use Rattle.sys_plan.specs.Plan.{PlanRec}
use Rattle.serial_model.specs.Serial.{history}
use Rattle.link_logs.specs.Entries.{between}
use Rattle.plan_stories.specs.Stories.{carried_at}

-- what a story tells slot by slot, from one slot on and before another, is the history of its arc there
abbrev pub StoriesAreHistories : Type 0
StoriesAreHistories = (plan : PlanRec) (link : LinkNumber) (from to : Slot) → from ≤ to → between (carried_at plan link) from to ≡ history plan link from to

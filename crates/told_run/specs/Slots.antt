-- What contracts see of a run of which slots are told, and what is told of a slot.
use Rattle.std.specs.Prelude.{◌≡◌, ◌+◌, ◌<◌, Option, Some, length, slice_get}
use Rattle.xs_base.specs.Numbers.{Slot, Position, ThreadNumber}
use Rattle.xs_base.specs.declared.numbers.TheConstants.{THREADS}
use Rattle.xs_model.specs.Masks.{in_mask}
use Rattle.xs_model.specs.Picks.{is_able}
use Rattle.xs_model.specs.Record.{CoreRec}
use Rattle.sys_plan.specs.declared.NodePlan.{NodePlan}
use Rattle.sys_plan.specs.Plan.{PlanRec}
use Rattle.core_step.specs.declared.told.Told.{Told}
use Rattle.issue_model.specs.Seen.{Seen, seen_at}
use Rattle.told_run.specs.declared.before.Before.{Before}

-- the plan, how many slots have passed since slot 0, and the slot that is told, if one is
pub record ToldRec : Type 0 where
  pub plan : PlanRec
  pub now : Slot
  pub slot : Option Slot

-- the run has passed a slot and tells it, and this is the node of its plan at a position
pub record TellsNode (run : ToldRec) (slot : Slot) (n : Position) (node : NodePlan) : Type 0 where
  pub told : run.slot ≡ Some slot
  pub passed : run.now ≡ slot + 1
  pub is : slice_get run.plan.nodes n ≡ Some node
  pub within : n < length run.plan.nodes

-- this is kept of a core
pub record IsBefore (core : CoreRec) (before : Before) : Type 0 where
  pub threads : before.threads ≡ core.threads
  pub last : before.last ≡ core.slots.last

-- this is told of a node that is seen so in a slot
pub record IsToldOf (seen : Seen) (slot : Slot) (told : Told) : Type 0 where
  pub issue : told.issue ≡ seen.issue
  pub traps : told.traps ≡ seen.traps
  pub able : (k : ThreadNumber) → k < THREADS → in_mask told.able k ≡ is_able seen.to_issue k slot

-- of the node of a plan at a position
abbrev pub IsToldIn : PlanRec → Slot → Position → Told → Type 0
IsToldIn plan slot n told = (node : NodePlan) → slice_get plan.nodes n ≡ Some node → IsToldOf (seen_at plan slot n node) slot told

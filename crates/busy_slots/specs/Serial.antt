-- The slots between busy ones, in the serial machine.
use Rattle.std.specs.Prelude.{◌≡◌, ◌≤◌, Some, slice_get}
use Rattle.xs_base.specs.Numbers.{Slot, Position, LinkNumber, EndNumber}
use Rattle.sys_plan.specs.declared.NodePlan.{NodePlan}
use Rattle.sys_plan.specs.Plan.{PlanRec, gaps_of, outgoing}
use Rattle.step_model.specs.Start.{fixed_of}
use Rattle.serial_model.specs.Serial.{serial, history}
use Rattle.locality_laws.specs.Locality.{node_in, events_in, shown_in_serial}
use Rattle.quiet_model.specs.Slots.{NoneBefore, IsFirst}
use Rattle.quiet_laws.specs.Undisturbed.{undisturbed_until, IsWhole}
use Rattle.quiet_laws.specs.Quiet.{StirsFirst}
use Rattle.busy_slots.specs.Busy.{something_arrives, is_busy, busy_count}

-- each node has all its ports before every slot, and notes for each thread the slot of its last issue, or never
abbrev pub NodesAreWhole : Type 0
NodesAreWhole = (plan : PlanRec) (n : Position) (slot : Slot) → IsWhole (node_in (serial plan slot) n).core

-- the node at a position went from one slot to another as one at which nothing arrives, nothing happened, and it sent nothing
pub record WasIdle (plan : PlanRec) (n : Position) (node : NodePlan) (from to : Slot) : Type 0 where
  pub rec : node_in (serial plan to) n ≡ undisturbed_until (fixed_of node (gaps_of plan n)) (node_in (serial plan from) n) from (shown_in_serial plan n) to
  pub events : events_in (serial plan to) n ≡ events_in (serial plan from) n
  pub sent : (end : EndNumber) (link : LinkNumber) (since : Slot) → outgoing plan n end ≡ Some link →
      history plan link since to ≡ history plan link since from

-- so it is between busy slots
abbrev pub IdleWhereNotBusy : Type 0
IdleWhereNotBusy = (plan : PlanRec) (n : Position) (node : NodePlan) (from to : Slot) →
    slice_get plan.nodes n ≡ Some node → from ≤ to → NoneBefore (is_busy plan n) from to → WasIdle plan n node from to

-- they are not counted
abbrev pub QuietSlotsAreNotCounted : Type 0
QuietSlotsAreNotCounted = (plan : PlanRec) (n : Position) (from to : Slot) →
    from ≤ to → NoneBefore (is_busy plan n) from to → busy_count plan n to ≡ busy_count plan n from

-- Where nothing arrives before a bound, the first busy slot before it is the first in which the node stirs at which nothing
-- arrives.
abbrev pub FirstBusySlot : Type 0
FirstBusySlot = (plan : PlanRec) (n : Position) (node : NodePlan) (from bound result : Slot) →
    slice_get plan.nodes n ≡ Some node → NoneBefore (something_arrives plan n) from bound →
    StirsFirst (fixed_of node (gaps_of plan n)) (node_in (serial plan from) n) from (shown_in_serial plan n) bound result →
    IsFirst (is_busy plan n) from bound result

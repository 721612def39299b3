-- What arrives at a node of the serial machine, what was seen of its links and has not arrived yet, and the first busy slot by both.
use Rattle.std.specs.Prelude.{◌≡◌, ◌≢◌, ◌+◌, ◌-◌, ◌<◌, ◌≤◌, true, false, Some, List, [], slice_get}
use Rattle.xs_base.specs.Numbers.{Slot, Position, LinkNumber, EndNumber}
use Rattle.xs_base.specs.declared.numbers.TheConstants.{LINK_ENDS}
use Rattle.xs_base.specs.declared.entry.Entry.{Entry}
use Rattle.sys_plan.specs.declared.NodePlan.{NodePlan}
use Rattle.sys_plan.specs.Plan.{PlanRec, incoming, delay_of, gaps_of}
use Rattle.step_model.specs.Start.{fixed_of}
use Rattle.serial_model.specs.Serial.{serial, history, arriving}
use Rattle.locality_laws.specs.Locality.{node_in, history_in, shown_in_serial}
use Rattle.quiet_model.specs.Slots.{NoneBefore, IsFirst}
use Rattle.quiet_laws.specs.Quiet.{StirsFirst}
use Rattle.busy_slots.specs.Busy.{something_arrives, is_busy, busy_count}

-- what arrives by an arc in a slot
abbrev pub brought_by : PlanRec → LinkNumber → Slot → List Entry
brought_by plan link slot = arriving slot (delay_of plan link) (history_in (serial plan slot).histories link)

-- nothing arrives at a node where nothing does by any of its link ends
abbrev pub NothingByAnyEnd : Type 0
NothingByAnyEnd = (plan : PlanRec) (n : Position) (slot : Slot) →
    ((end : EndNumber) (link : LinkNumber) → incoming plan n end ≡ Some link → brought_by plan link slot ≡ []) → something_arrives plan n slot ≡ false

-- something arrives where something does by one of them
abbrev pub SomethingByOneEnd : Type 0
SomethingByOneEnd = (plan : PlanRec) (n : Position) (slot : Slot) (end : EndNumber) (link : LinkNumber) →
    end < LINK_ENDS → incoming plan n end ≡ Some link → brought_by plan link slot ≢ [] → something_arrives plan n slot ≡ true

-- what was seen of an arc up to a slot and has not arrived stays the same over slots in which nothing arrives
abbrev pub WaitingStays : Type 0
WaitingStays = (plan : PlanRec) (n : Position) (end : EndNumber) (link : LinkNumber) (from to seen : Slot) →
    end < LINK_ENDS → incoming plan n end ≡ Some link → 1 ≤ delay_of plan link → from ≤ to → to ≤ seen + delay_of plan link →
    NoneBefore (something_arrives plan n) from to →
    history plan link (from - delay_of plan link) seen ≡ history plan link (to - delay_of plan link) seen

-- the first busy slot by two searches: the first slot in which something arrives, and before it the first in which the node stirs at
-- which nothing arrives
abbrev pub FirstBusyByBoth : Type 0
FirstBusyByBoth = (plan : PlanRec) (n : Position) (node : NodePlan) (from bound arrival result : Slot) →
    slice_get plan.nodes n ≡ Some node → IsFirst (something_arrives plan n) from bound arrival →
    StirsFirst (fixed_of node (gaps_of plan n)) (node_in (serial plan from) n) from (shown_in_serial plan n) arrival result →
    IsFirst (is_busy plan n) from bound result

-- no slot is counted before the first one
abbrev pub NoneIsCountedAtStart : Type 0
NoneIsCountedAtStart = (plan : PlanRec) (n : Position) → busy_count plan n 0 ≡ 0

-- a busy slot is counted
abbrev pub BusySlotIsCounted : Type 0
BusySlotIsCounted = (plan : PlanRec) (n : Position) (slot : Slot) → is_busy plan n slot ≡ true → busy_count plan n (slot + 1) ≡ busy_count plan n slot + 1

-- A node uses of the other nodes what comes to it, and nothing else.
use Rattle.std.specs.Prelude.{ℕ, ◌≡◌, ◌+◌, ◌<◌, suc, nat_lt, Option, Some, List, [], ◌++◌, filter, slice_get, slice_index_or}
use Rattle.xs_base.specs.Numbers.{Slot, Position, LinkNumber, EndNumber, PortNumber}
use Rattle.xs_base.specs.declared.numbers.TheConstants.{LINK_ENDS}
use Rattle.xs_base.specs.declared.entry.Entry.{Entry}
use Rattle.xs_model.specs.declared.event.Event.{Event}
use Rattle.xs_model.specs.declared.outside.PinView.{PinView}
use Rattle.xs_model.specs.Record.{NodeRec, first_node}
use Rattle.sys_plan.specs.declared.NodePlan.{NodePlan}
use Rattle.sys_plan.specs.Plan.{PlanRec, Arc, Joined, IsPlan, arcs, outgoing, incoming, wire_to, delay_of}
use Rattle.step_model.specs.Step.{Stepped}
use Rattle.serial_model.specs.Serial.{SystemRec, Coming, coming_at, pins_at, step_by, serial, arriving, wire_level, carried_by, history}
use Rattle.locality_laws.specs.Alone.{AloneRec, alone, heard_by}

-- ---- A node and its arcs in the serial machine

abbrev pub node_in : SystemRec → Position → NodeRec
node_in system n = slice_index_or system.nodes n (first_node 0 0 [])

abbrev pub events_in : SystemRec → Position → List Event
events_in system n = slice_index_or system.events n []

abbrev pub history_in : List (List Entry) → LinkNumber → List Entry
history_in histories link = slice_index_or histories link []

-- the arcs that leave by an end of the node at a position
pub record Leaves (plan : PlanRec) (n : Position) (end : EndNumber) (link : LinkNumber) : Type 0 where
  pub arc : Arc
  pub here : slice_get (arcs plan) link ≡ Some arc
  pub from : arc.from ≡ n
  pub from_end : arc.from_end ≡ end

-- the one that a plan gives for an end leaves by it
abbrev pub OutgoingLeaves : Type 0
OutgoingLeaves = (plan : PlanRec) (n : Position) (end : EndNumber) (link : LinkNumber) → outgoing plan n end ≡ Some link → Leaves plan n end link

-- ---- What arrives

-- the entries of an arc that arrive before a slot
abbrev pub arriving_before : Slot → ℕ → List Entry → List Entry
arriving_before slot delay history = filter (λ (e : Entry). nat_lt (e.slot + delay) slot) history

-- of each directed link that comes to a node, the same arrives in a slot by one list of histories as by the other
abbrev pub ArriveAlike : PlanRec → Position → Slot → List (List Entry) → List (List Entry) → Type 0
ArriveAlike plan n slot one other = (end : EndNumber) (link : LinkNumber) → end < LINK_ENDS → incoming plan n end ≡ Some link →
    arriving slot (delay_of plan link) (history_in one link) ≡ arriving slot (delay_of plan link) (history_in other link)

-- each wire that comes to a pin of it shows the same there in a slot
abbrev pub ShowAlike : PlanRec → Position → Slot → List (List Entry) → List (List Entry) → Type 0
ShowAlike plan n slot one other = (port : PortNumber) (wire : LinkNumber) → wire_to plan n port ≡ Some wire →
    wire_level slot (delay_of plan wire) (history_in one wire) ≡ wire_level slot (delay_of plan wire) (history_in other wire)

-- of each arc that comes to it, be it a directed link or a wire, the same arrives before a slot
abbrev pub ArriveAlikeBefore : PlanRec → Position → Slot → List (List Entry) → List (List Entry) → Type 0
ArriveAlikeBefore plan n slot one other = (end : EndNumber) (link : LinkNumber) → incoming plan n end ≡ Some link →
    arriving_before slot (delay_of plan link) (history_in one link) ≡ arriving_before slot (delay_of plan link) (history_in other link)

-- ---- What comes

-- what comes to a node in a slot of the serial machine
abbrev pub comes_in_serial : PlanRec → Position → Slot → Coming
comes_in_serial plan n slot = coming_at plan (serial plan slot).histories slot n

-- of that, what its pins show from outside
abbrev pub shown_in_serial : PlanRec → Position → Slot → PinView
shown_in_serial plan n slot = pins_at plan (serial plan slot).histories n slot

-- the same comes to it by whatever lists tell the same of what arrives in this slot by links, and of what wires show in it
abbrev pub ArrivalsTell : Type 0
ArrivalsTell = (plan : PlanRec) (n : Position) (slot : Slot) (heard : List (List Entry)) →
    ArriveAlike plan n slot heard (serial plan slot).histories → ShowAlike plan n slot heard (serial plan slot).histories →
    heard_by plan heard n slot ≡ comes_in_serial plan n slot

-- and lists that tell what arrives before a slot tell what comes in every slot before it, whatever else stands in them
abbrev pub ArrivalsTellBefore : Type 0
ArrivalsTellBefore = (plan : PlanRec) (n : Position) (slots slot : Slot) (heard : List (List Entry)) →
    IsPlan plan → ArriveAlikeBefore plan n slots heard (serial plan slots).histories → slot < slots → heard_by plan heard n slot ≡ comes_in_serial plan n slot

-- ---- One slot

-- what an arc that leaves a node by an end, and joins these ports where it is a wire, carries of this step of the node in a slot
abbrev pub carries_of : PlanRec → Position → Slot → Stepped → EndNumber → Option Joined → List Entry
carries_of plan n slot s end joins = carried_by slot (node_in (serial plan slot) n) s.rec s.emitted end joins

-- a slot of the serial machine is, at a node, this step
pub record IsStep (plan : PlanRec) (n : Position) (slot : Slot) (s : Stepped) : Type 0 where
  pub rec : node_in (serial plan (suc slot)) n ≡ s.rec
  pub events : events_in (serial plan (suc slot)) n ≡ events_in (serial plan slot) n ++ s.emitted.events
  pub sent : (end : EndNumber) (link : LinkNumber) (l : Leaves plan n end link) →
      history_in (serial plan (suc slot)).histories link ≡ history_in (serial plan slot).histories link ++ carries_of plan n slot s end l.arc.joins
  -- and that is what the arc carries in the slot
  pub carried : (end : EndNumber) (link : LinkNumber) (l : Leaves plan n end link) → history plan link slot (suc slot) ≡ carries_of plan n slot s end l.arc.joins

-- It is the step that the node makes by what comes to it in this slot.
abbrev pub StepNeedsComing : Type 0
StepNeedsComing = (plan : PlanRec) (n : Position) (node : NodePlan) (slot : Slot) (coming : Coming) →
    slice_get plan.nodes n ≡ Some node → coming ≡ comes_in_serial plan n slot →
    IsStep plan n slot (step_by plan n node slot coming (node_in (serial plan slot) n))

-- ---- All slots

-- the node after so many slots alone is what it is in the serial machine
pub record IsInSerial (plan : PlanRec) (n : Position) (slots : Slot) (alone : AloneRec) : Type 0 where
  pub rec : alone.rec ≡ node_in (serial plan slots) n
  pub events : alone.events ≡ events_in (serial plan slots) n
  pub sent : (end : EndNumber) (link : LinkNumber) → Leaves plan n end link → slice_index_or alone.sent end [] ≡ history_in (serial plan slots).histories link

-- The law of locality: a node that is stepped alone, by what comes to it in each slot, is then what it is in the serial machine.
abbrev pub Locality : Type 0
Locality = (plan : PlanRec) (n : Position) (node : NodePlan) (slots : Slot) (comes : Slot → Coming) →
    IsPlan plan → slice_get plan.nodes n ≡ Some node → ((slot : Slot) → slot < slots → comes slot ≡ comes_in_serial plan n slot) →
    IsInSerial plan n slots (alone plan comes n node slots)

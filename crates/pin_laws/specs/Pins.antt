-- What the pin events of a run tell of what the ports of its nodes drive.
use Rattle.std.specs.Prelude.{◌≡◌, ◌==◌, suc, Option, None, List, [], filter, slice_index_or}
use Rattle.xs_base.specs.Numbers.{Slot, Word, Position, PortNumber}
use Rattle.xs_model.specs.declared.event.Event.{Event}
use Rattle.xs_model.specs.Record.{first_node, port_of}
use Rattle.sys_plan.specs.Plan.{PlanRec}
use Rattle.step_laws.specs.Pins.{driven_after, TellChanges}
use Rattle.serial_model.specs.Serial.{SystemRec, serial}

-- what a port drives by the events so far: the value of its last Drive, and nothing without one or after a Float
abbrev pub driven_by : PortNumber → List Event → Option Word
driven_by p events = driven_after p None events

-- what a port of the node at a position drives, and the events of that node; past the last node there is nothing
abbrev pub driven_at : SystemRec → Position → PortNumber → Option Word
driven_at system n p = (port_of (slice_index_or system.nodes n (first_node 0 0 [])).core p).driven

abbrev pub events_at : SystemRec → Position → List Event
events_at system n = slice_index_or system.events n []

-- the events of one slot
abbrev pub of_slot : Slot → List Event → List Event
of_slot slot events = filter (λ (e : Event). e.slot == slot) events

-- before every slot each port drives what the events so far say
abbrev pub PinsAreTold : Type 0
PinsAreTold = (plan : PlanRec) (slots : Slot) (n : Position) (p : PortNumber) →
    driven_at (serial plan slots) n p ≡ driven_by p (events_at (serial plan slots) n)

-- each of them tells a change of what its port drives
abbrev pub PinEventsAreChanges : Type 0
PinEventsAreChanges = (plan : PlanRec) (slots : Slot) (n : Position) (p : PortNumber) →
    TellChanges p None (events_at (serial plan slots) n)

-- and what a port drives after a slot follows from what it drove before by the events of that slot alone
abbrev pub ChangesAreInTheirSlot : Type 0
ChangesAreInTheirSlot = (plan : PlanRec) (slot : Slot) (n : Position) (p : PortNumber) →
    let after = serial plan (suc slot) in
    driven_at after n p ≡ driven_after p (driven_at (serial plan slot) n p) (of_slot slot (events_at after n))

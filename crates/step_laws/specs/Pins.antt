-- What pin events tell of a port: what it drives after them, and that each of them tells a change.
use Rattle.std.specs.Prelude.{◌≡◌, ◌≢◌, ◌==◌, if◌then◌else◌, Option, Some, None, List, [], ◌∷◌}
use Rattle.xs_base.specs.Numbers.{Slot, Word, PortNumber}
use Rattle.xs_model.specs.declared.event.Event.{Event}
use Rattle.xs_model.specs.declared.event.Happen.{Happen}
use Rattle.xs_model.specs.declared.event.Happen.TheVariants as happen
use Rattle.xs_model.specs.declared.outside.Arrivals.{Arrivals}
use Rattle.xs_model.specs.declared.outside.PinView.{PinView}
use Rattle.xs_model.specs.Record.{NodeRec, port_of}
use Rattle.step_model.specs.Fixed.{Fixed}
use Rattle.step_model.specs.Step.{node_step}

-- what a port drives after something happened, where it drove this before
abbrev pub driven_then : PortNumber → Option Word → Happen → Option Word
driven_then p before (happen.Drive port value) = if port == p then Some value else before
driven_then p before (happen.Float port) = if port == p then None else before
driven_then p before _ = before

-- and after some events: the value of the port's last Drive, nothing after a Float, and what it drove before where there is
-- neither
abbrev pub driven_after : PortNumber → Option Word → List Event → Option Word
driven_after p before [] = before
driven_after p before (e ∷ events) = driven_after p (driven_then p before e.what) events

-- what happens at a port is a change: a Drive tells a value that was not driven before, and a Float comes only where one was
abbrev pub IsChange : PortNumber → Option Word → Happen → Type 0
IsChange p before (happen.Drive port value) = port ≡ p → before ≢ Some value
IsChange p before (happen.Float port) = port ≡ p → before ≢ None
IsChange p before _ = Unit {0}

-- so is each of some events
abbrev pub TellChanges : PortNumber → Option Word → List Event → Type 0
TellChanges p before [] = Unit {0}
TellChanges p before (e ∷ events) = IsChange p before e.what × TellChanges p (driven_then p before e.what) events

-- After a slot of a node each port drives what the slot's events say, whatever the node, its code and what comes to it
abbrev pub SlotTellsDriven : Type 0
SlotTellsDriven = (fixed : Fixed) (rec : NodeRec) (slot : Slot) (arrivals : Arrivals) (pins : PinView) (p : PortNumber) →
    let after = node_step fixed rec slot arrivals pins in
    (port_of after.rec.core p).driven ≡ driven_after p (port_of rec.core p).driven after.emitted.events

-- and each of those events tells a change.
abbrev pub SlotTellsChanges : Type 0
SlotTellsChanges = (fixed : Fixed) (rec : NodeRec) (slot : Slot) (arrivals : Arrivals) (pins : PinView) (p : PortNumber) →
    TellChanges p (port_of rec.core p).driven (node_step fixed rec slot arrivals pins).emitted.events

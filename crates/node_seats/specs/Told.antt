-- What a slot tells of the threads of a node at work.
use Rattle.xs_base.specs.Numbers.{Slot}
use Rattle.xs_model.specs.declared.outside.Arrivals.{Arrivals}
use Rattle.xs_model.specs.declared.outside.PinView.{PinView}
use Rattle.xs_model.specs.Record.{NodeRec}
use Rattle.core_step.specs.Core.{StandsAt}
use Rattle.core_step.specs.Told.{IsTold}
use Rattle.core_step.specs.declared.told.Told.{Told}
use Rattle.node_seats.specs.declared.seat.Seat.{Seat}

-- this is told of a slot of a node to which this comes: of the node for which it stands
abbrev pub IsToldOf : Slot → Arrivals → PinView → Seat → Told → Type 0
IsToldOf slot arrivals pins seat told =
    (rec : NodeRec) → StandsAt seat.core rec slot → IsTold seat.core.fixed rec slot arrivals pins told

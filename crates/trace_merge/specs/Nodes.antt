-- The events that are kept of each node.
use Rattle.std.specs.Prelude.{ℕ, ◌<◌, List, map, All}
use Rattle.xs_model.specs.declared.event.Event.{Event}
use Rattle.xs_model.specs.Events.{IsWithinCounts}
use Rattle.trace_lines.specs.Kept.{KeptEvents}
use Rattle.trace_model.specs.EventOrder.{Placed}

-- the kept events of each node, node after node
abbrev pub events_of : List KeptEvents → List (List Event)
events_of nodes = map (λ (kept : KeptEvents). kept.events) nodes

-- each number in the events is below its count
abbrev pub AreWithinCounts : List Placed → Type 0
AreWithinCounts events = All (λ (e : Placed). IsWithinCounts e.1) events

-- each event is of one of so many nodes
abbrev pub AreOfNodes : ℕ → List Placed → Type 0
AreOfNodes count events = All (λ (e : Placed). e.0 < count) events

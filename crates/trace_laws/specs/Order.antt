-- The order of a trace's events, in a reader's words.
use Rattle.std.specs.Prelude.{ℕ, ◌≡◌, ◌+◌, ◌==◌, List, [], ◌∷◌, ◌++◌, filter}
use Rattle.xs_model.specs.declared.event.Event.{Event}
use Rattle.xs_model.specs.FirstEvents.{first_events}
use Rattle.sys_plan.specs.Plan.{PlanRec}
use Rattle.serial_model.specs.Serial.{serial}
use Rattle.trace_model.specs.EventOrder.{Placed, told_at, RiseFrom, of_slot}
use Rattle.trace_model.specs.Trace.{events_at, end_of, events_in_order}

-- the events of the node at one position
abbrev pub of_node : ℕ → List Placed → List Placed
of_node k events = filter (λ (e : Placed). e.0 == k) events

-- the kept events of one slot node by node, the first of the nodes at position k: each node's in its own order
abbrev pub node_by_node : ℕ → ℕ → List (List Event) → List Placed
node_by_node slot k [] = []
node_by_node slot k (events ∷ nodes) = of_slot slot (told_at k (first_events events)) ++ node_by_node slot (k + 1) nodes

-- the events of a trace
abbrev pub trace_events : PlanRec → ℕ → List Placed
trace_events plan slots = events_in_order (end_of (serial plan slots))

abbrev pub SlotsNeverFall : Type 0
SlotsNeverFall = (plan : PlanRec) (slots : ℕ) → RiseFrom 0 (trace_events plan slots)

abbrev pub NodeByNode : Type 0
NodeByNode = (plan : PlanRec) (slots slot : ℕ) →
    of_slot slot (trace_events plan slots) ≡ node_by_node slot 0 (serial plan slots).events

-- of each node, what is kept of its events, in their order
abbrev pub OwnOrder : Type 0
OwnOrder = (plan : PlanRec) (slots k : ℕ) →
    of_node k (trace_events plan slots) ≡ told_at k (first_events (events_at (serial plan slots) k))

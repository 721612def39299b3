-- The events of all nodes in one order: by slot, within a slot by node, and each node's in its own order.
use Rattle.std.specs.Prelude.{ℕ, ◌≡◌, ◌+◌, ◌≤◌, ◌==◌, nat_lt, if◌then◌else◌, List, [], ◌∷◌, ◌++◌, map, filter}
use Rattle.xs_model.specs.declared.event.Event.{Event}

-- an event, with the position of the node on which it happened
abbrev pub Placed : Type 0
Placed = ℕ × Event

-- a node's events, each with the node's position
abbrev pub told_at : ℕ → List Event → List Placed
told_at k events = map (λ (e : Event). (k, e)) events

-- all events of one node after those of another, the first of the nodes at position k
abbrev pub node_after_node : ℕ → List (List Event) → List Placed
node_after_node k [] = []
node_after_node k (events ∷ nodes) = told_at k events ++ node_after_node (k + 1) nodes

-- an event and others, of which those at the front that are in an earlier slot stand before it
abbrev pub put_in_slot : Placed → List Placed → List Placed
put_in_slot e [] = e ∷ []
put_in_slot e (other ∷ others) =
    if nat_lt other.1.slot e.1.slot then other ∷ put_in_slot e others else e ∷ (other ∷ others)

-- events by slot, and those of one slot as they were
unfoldable pub by_slot : List Placed → List Placed
by_slot [] = []
by_slot (e ∷ events) = put_in_slot e (by_slot events)

-- the events of the nodes as one list
abbrev pub merged : List (List Event) → List Placed
merged nodes = by_slot (node_after_node 0 nodes)

-- the first event is not before a slot, and no other is in an earlier slot than the one before it
abbrev pub RiseFrom : ℕ → List Placed → Type 0
RiseFrom slot [] = Unit {0}
RiseFrom slot (e ∷ events) = (slot ≤ e.1.slot) × RiseFrom e.1.slot events

-- the events of one slot
abbrev pub of_slot : ℕ → List Placed → List Placed
of_slot slot events = filter (λ (e : Placed). e.1.slot == slot) events

-- the events of a list in a reader's words: by slot, and those of one slot node by node, each node's in its own order
pub record AreInOrder (nodes : List (List Event)) (events : List Placed) : Type 0 where
  pub rise : RiseFrom 0 events
  pub by_node : (slot : ℕ) → of_slot slot events ≡ of_slot slot (node_after_node 0 nodes)

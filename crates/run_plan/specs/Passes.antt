-- Passes over lists, in which each place is changed in turn.
use Rattle.std.specs.Prelude.{ℕ, zero, suc, ◌≡◌, ◌<◌, ◌≤◌, Bool, false, List, [], ◌∷◌, map, slice_index_or}
use Rattle.xs_base.specs.Numbers.{Slot, Word, Position, PortNumber}
use Rattle.xs_model.specs.Record.{CoreRec, first_node, port_of}
use Rattle.xs_model.specs.Outside.{Emitted, emitted_events}
use Rattle.pin_wires.specs.Wires.{driven_or_low}
use Rattle.serial_model.specs.Serial.{sent_by}
use Rattle.crossings.specs.Crossings.{no_crossing}
use Rattle.node_seats.specs.Seats.{HasEventRoom, HasNoted, SameSeat}
use Rattle.node_seats.specs.Shown.{IsShown}
use Rattle.run_plan.specs.declared.track.Track.{Track}
use Rattle.run_plan.specs.declared.wire.Wire.{Wire}
use Rattle.run_plan.specs.declared.station.Station.{Station}
use Rattle.run_plan.specs.Tracks.{IsTrack, GoesOn}
use Rattle.run_plan.specs.Wires.{HasCome, WireGoesOn}

-- the first places of the second list are related to those of the first, and the rest are the same
abbrev pub Through : {X : Type 0} → (X → X → Type 0) → ℕ → List X → List X → Type 0
Through R zero xs ys = ys ≡ xs
Through R (suc i) [] ys = ⊥
Through R (suc i) (x ∷ xs) [] = ⊥
Through R (suc i) (x ∷ xs) (y ∷ ys) = R x y × Through R i xs ys

-- room for the events of a slot
abbrev pub HasRoomForEvents : Station → Type 0
HasRoomForEvents station = HasEventRoom station.seat

-- room for the entries of a slot
abbrev pub HasEntryRoom : Track → Type 0
HasEntryRoom track = 2 ≤ track.history.spare

-- room for the entry of a slot
abbrev pub HasLevelRoom : Wire → Type 0
HasLevelRoom wire = 1 ≤ wire.history.spare

-- nothing of a node changed but the room, with its pins and the arcs that come to it
pub record SameNode (before after : Station) : Type 0 where
  pub seat : SameSeat before.seat after.seat
  pub pins : after.pins ≡ before.pins
  pub incoming : after.incoming ≡ before.incoming

-- nothing changed but the room
pub record SameStation (before after : Station) : Type 0 where
  pub node : SameNode before after
  pub due : after.due ≡ before.due

-- nothing changed but whether it is due
pub record SameButDue (before after : Station) : Type 0 where
  pub seat : after.seat ≡ before.seat
  pub pins : after.pins ≡ before.pins
  pub incoming : after.incoming ≡ before.incoming

abbrev pub SameTrack : Track → Track → Type 0
SameTrack before after = record after { history = record after.history { spare = before.history.spare } } ≡ before

abbrev pub SameWire : Wire → Wire → Type 0
SameWire before after = record after { history = record after.history { spare = before.history.spare } } ≡ before

-- nothing changed but what came by wires, before a slot that was not looked at yet
pub record SameButCome (slot : Slot) (before after : Station) : Type 0 where
  pub seat : after.seat ≡ before.seat
  pub incoming : after.incoming ≡ before.incoming
  pub due : after.due ≡ before.due
  pub script : after.pins.script ≡ before.pins.script
  pub number : after.pins.number ≡ before.pins.number
  pub wired : after.pins.wired ≡ before.pins.wired
  pub shown : IsShown slot before.pins → IsShown slot after.pins
  pub noted : HasNoted slot before.pins before.seat → HasNoted slot after.pins after.seat

-- the same with the room
pub record MakesEventRoom (before after : Station) : Type 0 where
  pub same : SameStation before after
  pub room : HasRoomForEvents after

pub record MakesEntryRoom (before after : Track) : Type 0 where
  pub same : SameTrack before after
  pub room : HasEntryRoom after

pub record MakesLevelRoom (before after : Wire) : Type 0 where
  pub same : SameWire before after
  pub room : HasLevelRoom after

-- a directed link as it is before a slot, among so many nodes
pub record IsReadyTrack (slot : Slot) (node_count : ℕ) (track : Track) : Type 0 where
  pub from : track.from < node_count
  pub to : track.to < node_count
  pub here : IsTrack slot track

-- what the node at a position gave in its slot
abbrev pub given_at : List Station → Position → Emitted
given_at stations n = slice_index_or (map (λ (s : Station). s.seat.given) stations) n (emitted_events [])

-- the cores of the nodes, and the level that a port of the one at a position drives, 0 where it drives none
abbrev pub cores_of : List Station → List CoreRec
cores_of stations = map (λ (s : Station). s.seat.core.core) stations

abbrev pub driven_by : List CoreRec → Position → PortNumber → Word
driven_by cores n port = driven_or_low (port_of (slice_index_or cores n (first_node 0 0 []).core) port).driven

-- what came last by wires to the pins of the nodes
abbrev pub levels_of : List Station → List (List Word)
levels_of stations = map (λ (s : Station). s.pins.levels) stations

-- before a slot, in front of which no change of a node's pins was missed
abbrev pub IsShownAt : Slot → Station → Type 0
IsShownAt slot station = IsShown slot station.pins

-- whether the node at a position is due
abbrev pub due_at : List Station → Position → Bool
due_at stations n = slice_index_or (map (λ (s : Station). s.due) stations) n false

-- where something arrives by a directed link, the node that it leads to is due
abbrev pub IsHeeded : List Station → Track → Type 0
IsHeeded stations track = due_at stations track.to ≡ false → track.arrived ≡ no_crossing

-- what the nodes gave in a slot makes this of a directed link, and the nodes are due as they are afterwards
pub record Advances (slot : Slot) (nodes nodes_after : List Station) (before after : Track) : Type 0 where
  pub on : GoesOn slot (sent_by slot (given_at nodes before.from) before.from_end) before after
  pub heeded : IsHeeded nodes_after after

-- what the nodes drive after a slot makes this of a wire, and what it then shows has come to its pin
pub record WireAdvances (slot : Slot) (cores : List CoreRec) (levels_after : List (List Word)) (before after : Wire) : Type 0 where
  pub on : WireGoesOn slot (driven_by cores before.from before.from_port) before after
  pub come : HasCome levels_after after

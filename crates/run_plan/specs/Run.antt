-- What nodes, directed links and wires at work have to do with the serial machine.
use Rattle.std.specs.Prelude.{◌≡◌, ◌+◌, Some, None, List, [], ◌∷◌, ◌++◌, length}
use Rattle.std.specs.List.{AllByRecursion}
use Rattle.xs_base.specs.Numbers.{Slot, Word, Position, LinkNumber}
use Rattle.xs_base.specs.declared.entry.Entry.{Entry}
use Rattle.xs_model.specs.declared.event.Event.{Event}
use Rattle.xs_model.specs.Record.{NodeRec}
use Rattle.sys_plan.specs.declared.NodePlan.{NodePlan}
use Rattle.sys_plan.specs.Plan.{PlanRec, Arc, link_arcs, wire_arcs}
use Rattle.step_laws.specs.Shape.{HasShape}
use Rattle.serial_model.specs.Serial.{SystemRec, node_by, driven_level, shown_of}
use Rattle.node_seats.specs.Seats.{Plays}
use Rattle.node_seats.specs.Shown.{ArePins}
use Rattle.run_plan.specs.declared.track.Track.{Track}
use Rattle.run_plan.specs.declared.wire.Wire.{Wire}
use Rattle.run_plan.specs.declared.station.Station.{Station}
use Rattle.run_plan.specs.Inbound.{incoming_of}
use Rattle.run_plan.specs.Stations.{IsStation}
use Rattle.run_plan.specs.Passes.{IsReadyTrack, IsHeeded, levels_of}
use Rattle.run_plan.specs.Wires.{AreReadyWires}

-- a node of a plan, at a position, plays its part there, with its pins and the arcs that come to it
pub record Serves (plan : PlanRec) (slot : Slot) (n : Position) (node : NodePlan) (station : Station) (rec : NodeRec) (events : List Event) : Type 0 where
  pub plays : Plays plan slot n node station.seat rec events
  pub pins : ArePins plan n slot station.pins
  pub incoming : station.incoming.links ≡ incoming_of plan n

-- that is so of these nodes, the first of which stands at position n
abbrev pub AllServe : PlanRec → Slot → Position → List NodePlan → List Station → List NodeRec → List (List Event) → Type 0
AllServe plan slot n [] [] [] [] = Unit {0}
AllServe plan slot n (node ∷ nodes) (station ∷ stations) (rec ∷ recs) (events ∷ all) =
    Serves plan slot n node station rec events × AllServe plan slot (n + 1) nodes stations recs all
AllServe plan slot n _ _ _ _ = ⊥

-- the arc of a directed link has this history
pub record Carries (d : Arc) (track : Track) (history : List Entry) : Type 0 where
  pub from : track.from ≡ d.from
  pub from_end : track.from_end ≡ d.from_end
  pub to : track.to ≡ d.to
  pub delay : track.delay ≡ d.delay
  pub joins : d.joins ≡ None
  pub entries : track.history.entries ≡ history

abbrev pub AllCarry : List Arc → List Track → List (List Entry) → Type 0
AllCarry [] [] [] = Unit {0}
AllCarry (d ∷ ds) (track ∷ tracks) (history ∷ histories) = Carries d track history × AllCarry ds tracks histories
AllCarry _ _ _ = ⊥

-- the arc of a wire has this history, and showed this level before. What was told last is the level that its first port drives, when these
-- are the nodes
pub record Tells (nodes : List NodeRec) (before : Word) (d : Arc) (wire : Wire) (history : List Entry) : Type 0 where
  pub from : wire.from ≡ d.from
  pub to : wire.to ≡ d.to
  pub delay : wire.delay ≡ d.delay
  pub joins : d.joins ≡ Some (record { from_port = wire.from_port; to_port = wire.to_port })
  pub entries : wire.history.entries ≡ history
  pub sent : wire.sent ≡ driven_level (node_by nodes wire.from) wire.from_port
  pub shown : wire.shown.value ≡ before

-- that is so of these, the first of which is the arc with a number, and which showed these levels before, by number
abbrev pub AllTell : List Word → List NodeRec → LinkNumber → List Arc → List Wire → List (List Entry) → Type 0
AllTell shown nodes k [] [] [] = Unit {0}
AllTell shown nodes k (d ∷ ds) (wire ∷ wires) (history ∷ histories) =
    Tells nodes (shown_of shown k) d wire history × AllTell shown nodes (k + 1) ds wires histories
AllTell shown nodes k _ _ _ = ⊥

-- the nodes and arcs of a plan before a slot, when the system is this, and arcs showed this before its histories: those of directed links, and
-- then of wires
pub record IsSystem (plan : PlanRec) (shown : List Word) (slot : Slot) (stations : List Station) (tracks : List Track) (wires : List Wire) (system : SystemRec) : Type 0 where
  pub serve : AllServe plan slot 0 plan.nodes stations system.nodes system.events
  pub link_histories : List (List Entry)
  pub wire_histories : List (List Entry)
  pub histories : system.histories ≡ link_histories ++ wire_histories
  pub carry : AllCarry (link_arcs plan.links) tracks link_histories
  pub tell : AllTell shown system.nodes (length (link_arcs plan.links)) (wire_arcs [] plan.wires) wires wire_histories

-- the nodes and arcs of a plan are ready for a slot, when the system is this, and arcs showed this before its histories
pub record AreReady (plan : PlanRec) (shown : List Word) (slot : Slot) (whole : SystemRec) (all_stations : List Station) (all_tracks : List Track) (all_wires : List Wire) : Type 0 where
  pub system : IsSystem plan shown slot all_stations all_tracks all_wires whole
  pub shapes : AllByRecursion HasShape whole.nodes
  pub stations : AllByRecursion (IsStation slot (length all_tracks)) all_stations
  pub tracks : AllByRecursion (IsReadyTrack slot (length all_stations)) all_tracks
  pub heeded : AllByRecursion (IsHeeded all_stations) all_tracks
  pub wires : AreReadyWires slot (levels_of all_stations) all_wires

-- The nodes and the arcs of a plan as a snapshot says them.
use Rattle.std.specs.Prelude.{ℕ, ◌≡◌, ◌+◌, true, Some, None, List, [], ◌∷◌, length, slice_get}
use Rattle.xs_base.specs.Numbers.{Slot, Word, Position, LinkNumber}
use Rattle.xs_base.specs.declared.entry.Entry.{Entry}
use Rattle.xs_model.specs.Record.{CoreRec}
use Rattle.sys_plan.specs.declared.NodePlan.{NodePlan}
use Rattle.sys_plan.specs.declared.WirePlan.{WirePlan}
use Rattle.sys_plan.specs.Plan.{PlanRec, Arc, link_arcs}
use Rattle.step_laws.specs.Shape.{HasShape}
use Rattle.core_step.specs.States.{node_rec}
use Rattle.snap_parts.specs.declared.node.SnapNode.{SnapNode}
use Rattle.snap_parts.specs.Parts.{LogRec}
use Rattle.run_plan.specs.declared.track.Track.{Track}
use Rattle.run_plan.specs.declared.wire.Wire.{Wire}
use Rattle.run_plan.specs.declared.station.Station.{Station}
use Rattle.run_plan.specs.Stations.{IsStation}
use Rattle.run_plan.specs.Tracks.{IsTrack}
use Rattle.run_plan.specs.Wires.{IsWire}
use Rattle.run_plan.specs.Passes.{driven_by}
use Rattle.run_plan.specs.Run.{Serves}

-- that is so of these, place by place, the first of which stands at position n
abbrev pub AllBegin : {A B C : Type 0} → (ℕ → A → B → C → Type 0) → ℕ → List A → List B → List C → Type 0
AllBegin R n [] [] [] = Unit {0}
AllBegin R n (a ∷ first) (b ∷ second) (c ∷ third) = R n a b c × AllBegin R (n + 1) first second third
AllBegin R n _ _ _ = ⊥

-- a node of a plan, at a position, begins before a slot with what a snapshot says. All are due, so that each looks at what arrives
pub record StationBegins (plan : PlanRec) (slot : Slot) (n : Position) (node : NodePlan) (snap : SnapNode) (station : Station) : Type 0 where
  pub serves : Serves plan slot n node station (node_rec snap.state) []
  pub ready : IsStation slot (length (link_arcs plan.links)) station
  pub shape : HasShape (node_rec snap.state)
  pub due : station.due ≡ true

-- the node of a plan at a position
abbrev pub StationBeginsAs : PlanRec → Slot → Position → SnapNode → Station → Type 0
StationBeginsAs plan slot n snap station = (node : NodePlan) → slice_get plan.nodes n ≡ Some node → StationBegins plan slot n node snap station

-- a directed link begins before a slot with these entries in flight
pub record TrackBegins (slot : Slot) (a a_end b lag : ℕ) (es : List Entry) (track : Track) : Type 0 where
  pub from : track.from ≡ a
  pub from_end : track.from_end ≡ a_end
  pub to : track.to ≡ b
  pub delay : track.delay ≡ lag
  pub entries : track.history.entries ≡ es
  pub here : IsTrack slot track

-- the arc of a link
pub record LinkBegins (slot : Slot) (k : LinkNumber) (d : Arc) (log : LogRec) (track : Track) : Type 0 where
  pub begins : TrackBegins slot d.from d.from_end d.to d.delay log.entries track
  pub joins : d.joins ≡ None

-- a wire begins before a slot with these entries in flight, before which it showed this level, where its first port drives that one
pub record WireBegins (slot : Slot) (driven : Word) (plan : WirePlan) (log : LogRec) (wire : Wire) : Type 0 where
  pub from : wire.from ≡ plan.a
  pub from_port : wire.from_port ≡ plan.a_port
  pub to : wire.to ≡ plan.b
  pub to_port : wire.to_port ≡ plan.b_port
  pub delay : wire.delay ≡ plan.delay
  pub entries : wire.history.entries ≡ log.entries
  pub sent : wire.sent ≡ driven
  pub shown : wire.shown.value ≡ log.level
  pub here : IsWire slot wire

-- so it is of each wire of a plan, by what these cores drive
abbrev pub WireBeginsBy : Slot → List CoreRec → ℕ → WirePlan → LogRec → Wire → Type 0
WireBeginsBy slot cores k plan log wire = WireBegins slot (driven_by cores plan.a plan.a_port) plan log wire

-- The nodes and the arcs of a plan as they start.
use Rattle.std.specs.Prelude.{ℕ, ◌≡◌, ◌+◌, Some, List, [], ◌∷◌, length, map, replicate, slice_get}
use Rattle.xs_base.specs.Numbers.{Position, EndNumber, PortNumber}
use Rattle.xs_base.specs.declared.numbers.TheConstants.{PORTS}
use Rattle.sys_plan.specs.declared.WirePlan.{WirePlan}
use Rattle.sys_plan.specs.declared.NodePlan.{NodePlan}
use Rattle.sys_plan.specs.Plan.{PlanRec, Arc, link_arcs, gaps_of}
use Rattle.step_model.specs.Start.{node_of}
use Rattle.crossings.specs.Crossings.{no_crossing}
use Rattle.run_plan.specs.declared.track.Track.{Track}
use Rattle.run_plan.specs.declared.wire.Wire.{Wire}
use Rattle.run_plan.specs.declared.station.Station.{Station}
use Rattle.run_plan.specs.Stations.{IsStation}
use Rattle.run_plan.specs.Run.{Serves}

-- a node, at a position, as it starts
pub record StartsHere (plan : PlanRec) (n : Position) (node : NodePlan) (station : Station) : Type 0 where
  pub serves : Serves plan 0 n node station (node_of node (gaps_of plan n)) []
  pub ready : IsStation 0 (length (link_arcs plan.links)) station
  pub low : station.pins.levels ≡ replicate PORTS 0

-- that is so of these nodes, the first of which stands at position n
abbrev pub AllStart : PlanRec → Position → List NodePlan → List Station → Type 0
AllStart plan n [] [] = Unit {0}
AllStart plan n (node ∷ nodes) (station ∷ stations) = StartsHere plan n node station × AllStart plan (n + 1) nodes stations
AllStart plan n _ _ = ⊥

-- the node of a plan at a position as it starts
abbrev pub StartsAs : PlanRec → Position → Station → Type 0
StartsAs plan n station = (node : NodePlan) → slice_get plan.nodes n ≡ Some node → StartsHere plan n node station

-- a directed link as it starts
abbrev pub track_at_start : Position → EndNumber → Position → ℕ → Track
track_at_start from from_end to delay = record {
  from = from;
  from_end = from_end;
  to = to;
  delay = delay;
  history = record { entries = []; spare = 0 };
  first = 0;
  arrived = no_crossing;
}

abbrev pub tracks_at_start : List Arc → List Track
tracks_at_start ds = map (λ (d : Arc). track_at_start d.from d.from_end d.to d.delay) ds

-- a wire as it starts
abbrev pub wire_at_start : Position → PortNumber → Position → PortNumber → ℕ → Wire
wire_at_start from from_port to to_port delay = record {
  from = from;
  from_port = from_port;
  to = to;
  to_port = to_port;
  delay = delay;
  history = record { entries = []; spare = 0 };
  first = 0;
  sent = 0;
  level = 0;
  shown = record { of = record {}; value = 0 };
}

abbrev pub wires_at_start : List WirePlan → List Wire
wires_at_start wires = map (λ (w : WirePlan). wire_at_start w.a w.a_port w.b w.b_port w.delay) wires

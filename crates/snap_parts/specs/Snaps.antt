-- The system that a snapshot says, and what it may say of one.
use Rattle.std.specs.Prelude.{ℕ, ◌+◌, ◌<◌, ◌^◌, Option, Some, None, List, [], ◌∷◌, map}
use Rattle.xs_base.specs.Ids.{port_width}
use Rattle.xs_base.specs.Numbers.{Slot, Position}
use Rattle.sys_plan.specs.declared.NodePlan.{NodePlan}
use Rattle.sys_plan.specs.Plan.{PlanRec, Arc, Joined, arcs, gaps_of}
use Rattle.serial_model.specs.Serial.{Begun}
use Rattle.core_step.specs.States.{node_rec, IsNodeState, IsStateBefore}
use Rattle.snap_parts.specs.declared.node.SnapNode.{SnapNode}
use Rattle.snap_parts.specs.InFlight.{AreLinkEntries, AreWireEntries}
use Rattle.snap_parts.specs.Parts.{LogRec, BodyRec}

-- ---- The system that it says

-- histories have what is in flight. No event is told of the slots before
abbrev pub begun_of : BodyRec → Begun
begun_of snap = record {
  slot = snap.slot;
  system = record {
    nodes = map (λ (node : SnapNode). node_rec node.state) snap.nodes;
    histories = map (λ (log : LogRec). log.entries) snap.logs;
    events = map (λ (node : SnapNode). []) snap.nodes;
  };
  shown = map (λ (log : LogRec). log.level) snap.logs;
}

-- ---- What it may say

-- of a wire with this delay, between pins of so many bits: what is in flight, and the level that it showed before that
pub record IsOnWire (slot : Slot) (delay width : ℕ) (log : LogRec) : Type 0 where
  pub entries : AreWireEntries slot delay width log.entries
  pub level : log.level < 2 ^ width

-- of an arc, which is a directed link or a wire
abbrev pub IsOnArc : Slot → ℕ → Option Joined → LogRec → Type 0
IsOnArc slot delay None log = AreLinkEntries slot delay log.entries
IsOnArc slot delay (Some joined) log = IsOnWire slot delay (port_width joined.to_port) log

-- of each of these arcs
abbrev pub AreOnArcs : Slot → List Arc → List LogRec → Type 0
AreOnArcs slot [] [] = Unit {0}
AreOnArcs slot (d ∷ ds) (log ∷ logs) = IsOnArc slot d.delay d.joins log × AreOnArcs slot ds logs
AreOnArcs slot _ _ = ⊥

-- of a node of a plan, at a position
pub record IsSnapNode (plan : PlanRec) (slot : Slot) (n : Position) (node : SnapNode) : Type 0 where
  pub state : IsNodeState (gaps_of plan n) node.state
  pub before : IsStateBefore slot node.state

-- of each of these nodes, the first of which stands at position n
abbrev pub AreSnapNodes : PlanRec → Slot → Position → List NodePlan → List SnapNode → Type 0
AreSnapNodes plan slot n [] [] = Unit {0}
AreSnapNodes plan slot n (node ∷ nodes) (snap ∷ snaps) = IsSnapNode plan slot n snap × AreSnapNodes plan slot (n + 1) nodes snaps
AreSnapNodes plan slot n _ _ = ⊥

-- of a system by a plan: all that a run asks for that goes on from it
pub record IsSnapSystem (plan : PlanRec) (snap : BodyRec) : Type 0 where
  pub nodes : AreSnapNodes plan snap.slot 0 plan.nodes snap.nodes
  pub logs : AreOnArcs snap.slot (arcs plan) snap.logs

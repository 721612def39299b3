-- That what a snapshot keeps of the serial machine has the facts that its bytes ask for.
use Rattle.std.specs.Prelude.{ℕ, ◌≡◌, ◌+◌, ◌*◌, ◌≤◌, ◌<◌, ◌^◌, Some, None, List, length, slice_get}
use Rattle.std.specs.List.{AllByRecursion}
use Rattle.xs_base.specs.Ids.{port_width}
use Rattle.xs_base.specs.Numbers.{Slot, Position, LinkNumber}
use Rattle.xs_model.specs.FirstEvents.{kept_at_most}
use Rattle.sys_plan.specs.declared.LinkPlan.{LinkPlan}
use Rattle.sys_plan.specs.declared.WirePlan.{WirePlan}
use Rattle.sys_plan.specs.Plan.{PlanRec, Arc, IsPlan, arcs, arc_count}
use Rattle.serial_model.specs.Serial.{serial}
use Rattle.snap_parts.specs.declared.node.SnapNode.{SnapNode}
use Rattle.snap_parts.specs.Parts.{LogRec, BodyRec}
use Rattle.snap_parts.specs.Snaps.{AreOnArcs, AreSnapNodes, IsSnapSystem}
use Rattle.log_forms.specs.InFlight.{IsLinkLog, IsWireLog}
use Rattle.snap_codec.specs.Body.{ends_of}
use Rattle.snap_model.specs.Saved.{saved_node, saved_log, saved_at}
use Rattle.locality_laws.specs.Locality.{node_in, events_in, history_in}
use Rattle.state_laws.specs.Runs.{RunInRange}
use Rattle.saved_laws.specs.Bytes.{CarryBytes}

-- ---- What is there

-- the node at a position, and all that happened to it
abbrev pub NodesAreSaved : Type 0
NodesAreSaved = (plan : PlanRec) (slot : Slot) (n : Position) → n < length plan.nodes →
    slice_get (saved_at plan slot).nodes n ≡ Some (saved_node (node_in (serial plan slot) n) (events_in (serial plan slot) n))

-- the arc with a number, and all that it carried
abbrev pub LogsAreSaved : Type 0
LogsAreSaved = (plan : PlanRec) (slot : Slot) (l : LinkNumber) (d : Arc) → slice_get (arcs plan) l ≡ Some d →
    slice_get (saved_at plan slot).logs l ≡ Some (saved_log slot d (history_in (serial plan slot).histories l))

-- and nothing else
pub record IsWhole (plan : PlanRec) (snap : BodyRec) : Type 0 where
  pub nodes : length snap.nodes ≡ length plan.nodes
  pub logs : length snap.logs ≡ arc_count plan

abbrev pub SavedIsWhole : Type 0
SavedIsWhole = (plan : PlanRec) (slot : Slot) → IsWhole plan (saved_at plan slot)

-- ---- Counts

-- of a node's events few enough are kept, and the number of the others fits
pub record IsCounted (node : SnapNode) : Type 0 where
  pub kept : node.kept ≤ kept_at_most
  pub more : node.more < 2 ^ 63

abbrev pub EventsAreCounted : Type 0
EventsAreCounted = (plan : PlanRec) (slot : Slot) → slot < 2 ^ 32 → AllByRecursion IsCounted (saved_at plan slot).nodes

-- ---- Links

-- the two directed links of a link may be kept, in a snapshot with these nodes
pub record IsKeptLink (slot : Slot) (link : LinkPlan) (nodes : List SnapNode) (forth back : LogRec) : Type 0 where
  pub first : IsLinkLog slot link.delay None forth
  pub second : IsLinkLog slot link.delay (Some (ends_of nodes link forth)) back

-- link k, whose directed links are 2k, which leads forth, and 2k + 1, which leads back
abbrev pub LinksMayBeKept : Type 0
LinksMayBeKept = (plan : PlanRec) (slot : Slot) (k : ℕ) (link : LinkPlan) (forth back : LogRec) → IsPlan plan → slot < 2 ^ 32 →
    slice_get plan.links k ≡ Some link →
    slice_get (saved_at plan slot).logs (2 * k) ≡ Some forth → slice_get (saved_at plan slot).logs (2 * k + 1) ≡ Some back →
    CarryBytes forth.entries → CarryBytes back.entries → IsKeptLink slot link (saved_at plan slot).nodes forth back

-- ---- Wires

-- wire k, whose arc comes after those of the links, two for each
abbrev pub WiresMayBeKept : Type 0
WiresMayBeKept = (plan : PlanRec) (slot : Slot) (k : ℕ) (wire : WirePlan) (log : LogRec) → IsPlan plan → slot < 2 ^ 32 →
    slice_get plan.wires k ≡ Some wire → slice_get (saved_at plan slot).logs (2 * length plan.links + k) ≡ Some log →
    IsWireLog slot wire.delay (port_width wire.b_port) log

-- ---- All of it: what a run asks for that goes on from it

abbrev pub LogsAreOnArcs : Type 0
LogsAreOnArcs = (plan : PlanRec) (slot : Slot) → IsPlan plan → AllByRecursion (λ (log : LogRec). CarryBytes log.entries) (saved_at plan slot).logs →
    AreOnArcs slot (arcs plan) (saved_at plan slot).logs

-- of the nodes, where the operands of their code are in their ranges, as those of every image are
abbrev pub NodesMayBeKept : Type 0
NodesMayBeKept = (plan : PlanRec) (slot : Slot) → IsPlan plan → RunInRange plan.nodes → AreSnapNodes plan slot 0 plan.nodes (saved_at plan slot).nodes

abbrev pub SystemsMayGoOn : Type 0
SystemsMayGoOn = (plan : PlanRec) (slot : Slot) → IsPlan plan → RunInRange plan.nodes →
    AllByRecursion (λ (log : LogRec). CarryBytes log.entries) (saved_at plan slot).logs → IsSnapSystem plan (saved_at plan slot)

-- What a run saves is a snapshot of its plan.
use Rattle.std.proofs.Common.{ℕ, ◌≡◌, ◌<◌, ◌≤◌, ◌^◌, List, [], ◌∷◌, length}
use Rattle.std.specs.List.{AllByRecursion}
use Rattle.xs_base.specs.Numbers.{Slot}
use Rattle.xs_model.specs.declared.event.Event.{Event}
use Rattle.xs_model.specs.Record.{NodeRec}
use Rattle.sys_plan.specs.Plan.{PlanRec, IsPlan, arcs}
use Rattle.system_model.specs.System.{Plan, system_of}
use Rattle.serial_model.specs.Serial.{serial}
use Rattle.core_step.specs.States.{node_state}
use Rattle.byte_forms.specs.Forms.{AreBytes}
use Rattle.snap_parts.specs.declared.node.SnapNode.{SnapNode}
use Rattle.snap_model.specs.Saved.{saved_nodes}
use Rattle.snap_codec.specs.Snaps.{SnapRec, IsSnap, Snap, longest_snapshot, snap_bytes, snap_of}
use Rattle.state_bridge.specs.Fits.{NumbersFit}
use Rattle.saved_laws.specs.Laws.{SavedIsWhole, EventsAreCounted, LinksMayBeKept, WiresMayBeKept, NodesMayBeKept}
use Rattle.range_laws.specs.Ranges.{AreRunnable, NumbersOfRunsFit, RunsCarryBytes}
use Rattle.range_laws.proofs.Runs.{run_in_range}
use Rattle.range_laws.proofs.Saved.{logs_carry}
use Rattle.snap_run.proofs.Holds.{NodesHaveTheForm}
use Rattle.snap_run.proofs.Snapshots.{body_holds, text_holds}
use Rattle.snap_laws.specs.Saved.{saved_snap, SavedIsRead}

saved_fit : (recs : List NodeRec) (all : List (List Event)) → AllByRecursion (λ (rec : NodeRec). NumbersFit (node_state rec)) recs
    → AllByRecursion (λ (node : SnapNode). NumbersFit node.state) (saved_nodes recs all)
saved_fit [] all fit = tt
saved_fit (rec ∷ recs) [] fit = tt
saved_fit (rec ∷ recs) (events ∷ all) fit = (fit.0, saved_fit recs all fit.1)

module _ (numbers : NumbersOfRunsFit) (carry : RunsCarryBytes) (whole : SavedIsWhole) (counted : EventsAreCounted) (nodes : NodesMayBeKept)
    (links : LinksMayBeKept) (wires : WiresMayBeKept) (form : NodesHaveTheForm) where
  saved_is_snap : (plan : PlanRec) → IsPlan plan → AreRunnable plan.nodes → (text : List ℕ) (slot : Slot) → AreBytes text → system_of text ≡ Plan plan → slot < 2 ^ 32
      → IsSnap plan (saved_snap plan text slot)
  saved_is_snap plan is runs text slot bytes stands small =
      let system = serial plan slot in
      record {
        system = stands;
        text = text_holds text plan stands bytes;
        body =
            body_holds plan slot is small whole links wires (logs_carry slot (arcs plan) system.histories (carry plan slot is runs)) form counted nodes
            (run_in_range plan.nodes runs) (saved_fit system.nodes system.events (numbers plan slot is runs));
      }

  pub saved_is_read : ((plan : PlanRec) (snap : SnapRec) → IsPlan plan → IsSnap plan snap → length (snap_bytes plan snap) ≤ longest_snapshot)
      → ((plan : PlanRec) (snap : SnapRec) → IsSnap plan snap → length (snap_bytes plan snap) ≤ longest_snapshot → snap_of (snap_bytes plan snap) ≡ Snap snap)
      → (plan : PlanRec) → IsPlan plan → AreRunnable plan.nodes → SavedIsRead plan
  saved_is_read short read plan is runs text slot bytes stands small =
      let snap = saved_is_snap plan is runs text slot bytes stands small in
      read plan (saved_snap plan text slot) snap (short plan (saved_snap plan text slot) is snap)

-- What a snapshot has: each node with its events, and each arc with its history.
use Rattle.std.proofs.Common.{◌≡◌, ℕ, zero, suc, ◌*◌, ◌<◌, ◌≤◌, ◌^◌, get_or, Some, List, [], ◌∷◌, length, slice_get, refl, ap, ◌∙◌, arith}
use Rattle.std.specs.List.{AllByRecursion}
use Rattle.std.proofs.lemmas.List.{length-take}
use Rattle.std.proofs.lemmas.Option.{none-some, same_Some}
use Rattle.xs_base.specs.Numbers.{Slot}
use Rattle.xs_base.specs.declared.entry.Entry.{Entry}
use Rattle.xs_model.specs.declared.event.Event.{Event}
use Rattle.xs_model.specs.FirstEvents.{kept_at_most}
use Rattle.xs_model.specs.Record.{NodeRec, first_node}
use Rattle.sys_plan.specs.Plan.{PlanRec, Arc, arcs}
use Rattle.step_laws.specs.Shape.{most_events}
use Rattle.serial_model.specs.Serial.{serial}
use Rattle.snap_model.specs.Saved.{saved_node, saved_nodes, saved_log, saved_logs}
use Rattle.saved_laws.specs.Laws.{NodesAreSaved, LogsAreSaved, SavedIsWhole, IsCounted, EventsAreCounted}
use Rattle.saved_laws.proofs.Events.{nodes_count, events_count, histories_count, AreFew, events_few}

-- ---- Nodes

nodes_length : (recs : List NodeRec) (all : List (List Event)) → length all ≡ length recs → length (saved_nodes recs all) ≡ length recs
nodes_length [] all e = refl
nodes_length (rec ∷ recs) [] e = absurd (omega (arith, e))
nodes_length (rec ∷ recs) (events ∷ all) e = ap suc (nodes_length recs all (omega (arith, e)))

nodes_at : (recs : List NodeRec) (all : List (List Event)) (k : ℕ) → k < length recs → length all ≡ length recs
    → slice_get (saved_nodes recs all) k ≡ Some (saved_node (get_or recs k (first_node 0 0 [])) (get_or all k []))
nodes_at [] all k h e = absurd (omega (arith, h))
nodes_at (rec ∷ recs) [] k h e = absurd (omega (arith, e))
nodes_at (rec ∷ recs) (events ∷ all) zero h e = refl
nodes_at (rec ∷ recs) (events ∷ all) (suc k) h e = nodes_at recs all k (omega (arith, h)) (omega (arith, e))

pub nodes_are_saved : NodesAreSaved
nodes_are_saved plan slot n within =
    nodes_at (serial plan slot).nodes (serial plan slot).events n (omega (arith, within, nodes_count plan slot)) (omega (arith, nodes_count plan slot, events_count plan slot))

-- ---- Arcs

module _ (slot : Slot) where
  logs_length : (ds : List Arc) (histories : List (List Entry)) → length histories ≡ length ds → length (saved_logs slot ds histories) ≡ length ds
  logs_length [] histories e = refl
  logs_length (d ∷ ds) [] e = absurd (omega (arith, e))
  logs_length (d ∷ ds) (history ∷ histories) e = ap suc (logs_length ds histories (omega (arith, e)))

  logs_at : (ds : List Arc) (histories : List (List Entry)) (l : ℕ) (d : Arc) → slice_get ds l ≡ Some d → length histories ≡ length ds
      → slice_get (saved_logs slot ds histories) l ≡ Some (saved_log slot d (get_or histories l []))
  logs_at [] histories l d h e = absurd (none-some d h)
  logs_at (x ∷ ds) [] l d h e = absurd (omega (arith, e))
  logs_at (x ∷ ds) (history ∷ histories) zero d h e = ap (λ (y : Arc). Some (saved_log slot y history)) (same_Some x d h)
  logs_at (x ∷ ds) (history ∷ histories) (suc l) d h e = logs_at ds histories l d h (omega (arith, e))

pub logs_are_saved : LogsAreSaved
logs_are_saved plan slot l d here = logs_at slot (arcs plan) (serial plan slot).histories l d here (histories_count plan slot)

pub saved_is_whole : SavedIsWhole
saved_is_whole plan slot = record {
  nodes = nodes_length (serial plan slot).nodes (serial plan slot).events (omega (arith, nodes_count plan slot, events_count plan slot)) ∙ nodes_count plan slot;
  logs = logs_length slot (arcs plan) (serial plan slot).histories (histories_count plan slot);
}

-- ---- Events

one_counted : (slot : Slot) (rec : NodeRec) (events : List Event) → slot < 2 ^ 32 → length events ≤ most_events * slot → IsCounted (saved_node rec events)
one_counted slot rec events few h = record { kept = omega (arith, length-take kept_at_most events); more = omega (arith, h, few) }

all_counted : (plan : PlanRec) (slot : Slot) → slot < 2 ^ 32 → (recs : List NodeRec) (all : List (List Event)) → AreFew plan slot all → AllByRecursion IsCounted (saved_nodes recs all)
all_counted plan slot few [] all h = tt
all_counted plan slot few (rec ∷ recs) [] h = tt
all_counted plan slot few (rec ∷ recs) (events ∷ all) h = (one_counted slot rec events few h.0, all_counted plan slot few recs all h.1)

pub events_are_counted : EventsAreCounted
events_are_counted plan slot few = all_counted plan slot few (serial plan slot).nodes (serial plan slot).events (events_few plan slot)

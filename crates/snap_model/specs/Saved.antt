-- What a snapshot keeps of a system before a slot.
use Rattle.std.specs.Prelude.{ℕ, ◌+◌, ◌-◌, nat_lt, Option, Some, None, List, [], ◌∷◌, length, filter}
use Rattle.xs_base.specs.Numbers.{Slot, Word}
use Rattle.xs_base.specs.declared.entry.Entry.{Entry}
use Rattle.xs_model.specs.declared.event.Event.{Event}
use Rattle.xs_model.specs.FirstEvents.{first_events, left_out}
use Rattle.xs_model.specs.Record.{NodeRec}
use Rattle.sys_plan.specs.Plan.{PlanRec, Arc, Joined, arcs}
use Rattle.serial_model.specs.Serial.{SystemRec, serial, is_sent_within, level_after}
use Rattle.trace_model.specs.Trace.{tokens_sent, credits_sent}
use Rattle.core_step.specs.States.{node_state}
use Rattle.snap_parts.specs.declared.node.SnapNode.{SnapNode}
use Rattle.snap_parts.specs.Parts.{LogRec, BodyRec}

-- a node and its events
abbrev pub saved_node : NodeRec → List Event → SnapNode
saved_node rec events = record { kept = length (first_events events); more = left_out events; state = node_state rec }

abbrev pub saved_nodes : List NodeRec → List (List Event) → List SnapNode
saved_nodes (rec ∷ recs) (events ∷ all) = saved_node rec events ∷ saved_nodes recs all
saved_nodes _ _ = []

-- the entries of an arc that have arrived before a slot
abbrev pub arrived_before : Slot → ℕ → List Entry → List Entry
arrived_before slot delay history = filter (λ (e : Entry). nat_lt (e.slot + delay) slot) history

-- the level that a wire showed in the slot before this one, 0 where nothing arrived. A directed link shows none
abbrev pub saved_level : Slot → ℕ → Option Joined → List Entry → Word
saved_level slot delay None history = 0
saved_level slot delay (Some joined) history = level_after 0 (arrived_before slot delay history)

-- an arc with this history
abbrev pub saved_log : Slot → Arc → List Entry → LogRec
saved_log slot d history = record {
  entries = filter (is_sent_within (slot - d.delay) slot) history;
  tokens = tokens_sent history;
  credits = credits_sent history;
  level = saved_level slot d.delay d.joins history;
}

abbrev pub saved_logs : Slot → List Arc → List (List Entry) → List LogRec
saved_logs slot (d ∷ ds) (history ∷ histories) = saved_log slot d history ∷ saved_logs slot ds histories
saved_logs slot _ _ = []

-- a system of a plan before a slot
abbrev pub saved : PlanRec → Slot → SystemRec → BodyRec
saved plan slot system = record {
  slot = slot;
  nodes = saved_nodes system.nodes system.events;
  logs = saved_logs slot (arcs plan) system.histories;
}

-- what the serial machine has come to before a slot
abbrev pub saved_at : PlanRec → Slot → BodyRec
saved_at plan slot = saved plan slot (serial plan slot)

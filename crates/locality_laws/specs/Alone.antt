-- One node stepped alone, by what comes to it in each slot.
use Rattle.std.specs.Prelude.{zero, suc, Option, Some, None, List, [], ◌++◌, map, slice_index_or}
use Rattle.xs_base.specs.Numbers.{Slot, Position, LinkNumber, EndNumber}
use Rattle.xs_base.specs.declared.entry.Entry.{Entry}
use Rattle.xs_model.specs.declared.event.Event.{Event}
use Rattle.xs_model.specs.Record.{NodeRec}
use Rattle.sys_plan.specs.declared.NodePlan.{NodePlan}
use Rattle.sys_plan.specs.Plan.{PlanRec, Arc, Joined, arcs, outgoing, gaps_of, ends_out}
use Rattle.step_model.specs.Start.{node_of}
use Rattle.step_model.specs.Step.{Stepped}
use Rattle.serial_model.specs.Serial.{Coming, coming_at, step_by, carried_by}

-- the ports that the arc with a number joins, where there is one and it is a wire
abbrev pub joins_of : PlanRec → Option LinkNumber → Option Joined
joins_of plan None = None
joins_of plan (Some link) = slice_index_or (map (λ (d : Arc). d.joins) (arcs plan)) link None

-- the ports that the arc joins that leaves by an end of the node at a position, where it is a wire
abbrev pub joins_by : PlanRec → Position → EndNumber → Option Joined
joins_by plan n end = joins_of plan (outgoing plan n end)

-- a node after some slots: its record, what happened, and what it sent by each of its ends, those of wires included
pub record AloneRec : Type 0 where
  pub rec : NodeRec
  pub events : List Event
  pub sent : List (List Entry)

-- the node at a position as it starts
abbrev pub alone_at_start : PlanRec → Position → NodePlan → AloneRec
alone_at_start plan n node = record { rec = node_of node (gaps_of plan n); events = []; sent = map (λ end. []) (ends_out plan n) }

-- by an end it sends of a slot what the arc carries that leaves by it
abbrev pub alone_after : PlanRec → Position → Slot → AloneRec → Stepped → AloneRec
alone_after plan n slot before s = record {
  rec = s.rec;
  events = before.events ++ s.emitted.events;
  sent = map (λ end. slice_index_or before.sent end [] ++ carried_by slot before.rec s.rec s.emitted end (joins_by plan n end)) (ends_out plan n);
}

-- the node after so many slots, in each of which this comes to it
unfoldable pub alone : PlanRec → (Slot → Coming) → Position → NodePlan → Slot → AloneRec
alone plan comes n node zero = alone_at_start plan n node
alone plan comes n node (suc slot) =
    let before = alone plan comes n node slot in alone_after plan n slot before (step_by plan n node slot (comes slot) before.rec)

-- what comes to the node at a position in each slot, where this was heard of the arcs
abbrev pub heard_by : PlanRec → List (List Entry) → Position → Slot → Coming
heard_by plan heard n slot = coming_at plan heard slot n

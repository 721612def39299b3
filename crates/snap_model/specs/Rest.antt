-- What a run comes to that goes on from a snapshot.
use Rattle.std.specs.Prelude.{ℕ, ◌+◌, ◌-◌, nat_le, List, [], ◌∷◌, ◌++◌, length, take, filter}
use Rattle.xs_base.specs.Numbers.{Slot}
use Rattle.xs_base.specs.declared.entry.Entry.{Entry}
use Rattle.xs_model.specs.declared.event.Event.{Event}
use Rattle.xs_model.specs.FirstEvents.{kept_at_most}
use Rattle.sys_plan.specs.Plan.{PlanRec}
use Rattle.serial_model.specs.Serial.{SystemRec, serial, since}
use Rattle.trace_model.specs.EventOrder.{Placed}
use Rattle.trace_model.specs.Trace.{Sent, EndRec, tokens_sent, credits_sent, end_of, event_lines, events_in_order, lines_after_events, end_line, end_text}
use Rattle.snap_parts.specs.declared.node.SnapNode.{SnapNode}
use Rattle.snap_parts.specs.Parts.{LogRec, BodyRec}
use Rattle.snap_parts.specs.Snaps.{begun_of}

-- ---- Events

-- how many more events of a node are kept: fewer by those that the snapshot counts
abbrev pub room_of : SnapNode → ℕ
room_of node = kept_at_most - node.kept

-- what is kept of the events of the slots from the snapshot's on, and how many are left out since slot 0
abbrev pub kept_after : List SnapNode → List (List Event) → List (List Event)
kept_after (node ∷ nodes) (events ∷ all) = take (room_of node) events ∷ kept_after nodes all
kept_after _ _ = []

abbrev pub more_after : List SnapNode → List (List Event) → List ℕ
more_after (node ∷ nodes) (events ∷ all) = (node.more + (length events - room_of node)) ∷ more_after nodes all
more_after _ _ = []

-- ---- Totals

-- the entries that were sent in a slot or after it
abbrev pub sent_from : Slot → List Entry → List Entry
sent_from slot history = filter (λ (e : Entry). nat_le slot e.slot) history

-- how much an arc carried since slot 0, with what the snapshot counts
abbrev pub sent_after : Slot → LogRec → List Entry → Sent
sent_after slot log history =
    (log.tokens + tokens_sent (sent_from slot history), log.credits + credits_sent (sent_from slot history))

abbrev pub all_sent_after : Slot → List LogRec → List (List Entry) → List Sent
all_sent_after slot (log ∷ logs) (history ∷ histories) = sent_after slot log history ∷ all_sent_after slot logs histories
all_sent_after slot _ _ = []

-- ---- The rest of a run

-- what is told of a system that a run has come to from a snapshot on
abbrev pub end_after : BodyRec → SystemRec → EndRec
end_after snap system = record {
  nodes = system.nodes;
  kept = kept_after snap.nodes system.events;
  more = more_after snap.nodes system.events;
  sent = all_sent_after snap.slot snap.logs system.histories;
}

-- what the system that a snapshot says has become before a slot, which is not before the snapshot's
abbrev pub serial_from : PlanRec → BodyRec → Slot → SystemRec
serial_from plan snap slot = since plan (begun_of snap) (slot - snap.slot)

-- the rest of the trace of a run of so many slots: the lines of the events from the snapshot's slot on, and what the whole run comes to
unfoldable pub rest_text : PlanRec → BodyRec → ℕ → List ℕ
rest_text plan snap slots = end_text plan slots (end_after snap (serial_from plan snap slots))

-- the trace of a run of so many slots without the lines of the events before a slot
unfoldable pub trace_from : PlanRec → Slot → ℕ → List ℕ
trace_from plan from slots =
    let end = end_of (serial plan slots) in
    event_lines plan.nodes (filter (λ (e : Placed). nat_le from e.1.slot) (events_in_order end)) ++ (lines_after_events plan end ++ end_line slots)

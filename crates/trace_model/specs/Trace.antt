-- The text that a run writes.
use Rattle.std.specs.Prelude.{ℕ, ◌+◌, Bool, true, false, not, ◌==◌, if◌then◌else◌, List, [], ◌∷◌, ◌++◌, length, map, filter, slice_index, slice_index_or, codes, decimal}
use Rattle.std.specs.List.{flat_map}
use Rattle.xs_base.specs.declared.numbers.TheConstants.{MEMORY_START}
use Rattle.xs_base.specs.declared.entry.Entry.{Entry}
use Rattle.xs_base.specs.declared.entry.What.{What}
use Rattle.xs_model.specs.declared.thread.Run.{Run}
use Rattle.xs_model.specs.declared.thread.Run.TheVariants.{Halted}
use Rattle.xs_model.specs.declared.thread.Thread.{Thread}
use Rattle.xs_model.specs.declared.event.Event.{Event}
use Rattle.xs_model.specs.Memory.{words_of}
use Rattle.xs_model.specs.Record.{NodeRec, first_node}
use Rattle.trace_model.specs.EventLines.{event_line, hex_word, port_name}
use Rattle.xs_model.specs.FirstEvents.{first_events, left_out}
use Rattle.sys_plan.specs.declared.NodePlan.{NodePlan}
use Rattle.sys_plan.specs.declared.WirePlan.{WirePlan}
use Rattle.sys_plan.specs.Plan.{PlanRec, Arc, link_arcs}
use Rattle.serial_model.specs.Serial.{SystemRec, serial, is_credit}
use Rattle.trace_model.specs.EventOrder.{Placed, merged}

-- the number of the node at a position
abbrev pub number_at : List NodePlan → ℕ → ℕ
number_at nodes k = slice_index (map (λ (node : NodePlan). node.number) nodes) k

-- the line of each event, with the number of its node
abbrev pub event_lines : List NodePlan → List Placed → List ℕ
event_lines nodes events = flat_map (λ (e : Placed). event_line (number_at nodes e.0) e.1) events

-- `nN more C`, where events were left out
abbrev pub more_line : ℕ → ℕ → List ℕ
more_line node count =
    if count == 0 then []
    else codes "n" ++ (decimal node ++ (codes " more " ++ (decimal count ++ (10 ∷ []))))

-- what carries something: a token, or a level of a wire
abbrev pub is_token : What → Bool
is_token what = not (is_credit what)

-- how many tokens a history has, or levels of a wire, and how many credits
abbrev pub tokens_sent : List Entry → ℕ
tokens_sent history = length (filter (λ (e : Entry). is_token e.what) history)

abbrev pub credits_sent : List Entry → ℕ
credits_sent history = length (filter (λ (e : Entry). is_credit e.what) history)

-- how much an arc carried: tokens, or levels of a wire, and credits
abbrev pub Sent : Type 0
Sent = ℕ × ℕ

abbrev pub sent_in : List Entry → Sent
sent_in history = (tokens_sent history, credits_sent history)

-- `N:E`, a link end of a node
abbrev pub link_end_text : ℕ → ℕ → List ℕ
link_end_text node end = decimal node ++ (codes ":" ++ decimal end)

-- ` tokens A credits B`, and the line's end
abbrev pub counts_text : Sent → List ℕ
counts_text sent = codes " tokens " ++ (decimal sent.0 ++ (codes " credits " ++ (decimal sent.1 ++ (10 ∷ []))))

-- `link N:E>M:F tokens A credits B`
abbrev pub traffic_line : ℕ → ℕ → ℕ → ℕ → Sent → List ℕ
traffic_line from from_end to to_end sent =
    codes "link " ++ (link_end_text from from_end ++ (codes ">" ++ (link_end_text to to_end ++ counts_text sent)))

-- `N:P`, a pin of a node, by the name of its port
abbrev pub pin_text : ℕ → ℕ → List ℕ
pin_text node port = decimal node ++ (codes ":" ++ port_name port)

-- `wire N:P>M:Q changes C`
abbrev pub changes_line : ℕ → ℕ → ℕ → ℕ → ℕ → List ℕ
changes_line from from_port to to_port changes =
    codes "wire " ++ (pin_text from from_port ++ (codes ">" ++ (pin_text to to_port ++ (codes " changes " ++ (decimal changes ++ (10 ∷ []))))))

abbrev pub is_halted : Run → Bool
is_halted Halted = true
is_halted _ = false

-- `nN.tT halted`, where the thread halted
abbrev pub halted_line : ℕ → ℕ → Run → List ℕ
halted_line node k run =
    if is_halted run then codes "n" ++ (decimal node ++ (codes ".t" ++ (decimal k ++ codes " halted\n"))) else []

-- the lines of the threads from number k on
unfoldable pub halted_lines : ℕ → ℕ → List Thread → List ℕ
halted_lines node k [] = []
halted_lines node k (th ∷ threads) = halted_line node k th.run ++ halted_lines node (k + 1) threads

-- `nN mem ADDRESS WORD`, where the word isn't 0
abbrev pub memory_line : ℕ → ℕ → ℕ → List ℕ
memory_line node at w =
    if w == 0 then []
    else codes "n" ++ (decimal node ++ (codes " mem " ++ (hex_word at ++ (codes " " ++ (hex_word w ++ (10 ∷ []))))))

-- the lines of the words from an address on
unfoldable pub memory_lines : ℕ → ℕ → List ℕ → List ℕ
memory_lines node at [] = []
memory_lines node at (w ∷ words) = memory_line node at w ++ memory_lines node (at + 4) words

-- `end SLOTS`
abbrev pub end_line : ℕ → List ℕ
end_line slots = codes "end " ++ (decimal slots ++ (10 ∷ []))

-- a piece of text for each element with its position, from position k on
unfoldable pub by_position : {A : Type 0} → (ℕ → A → List ℕ) → ℕ → List A → List ℕ
by_position piece k [] = []
by_position piece k (x ∷ xs) = piece k x ++ by_position piece (k + 1) xs

-- the history of the arc with a number, and the events of the node at a position
abbrev pub history_at : SystemRec → ℕ → List Entry
history_at system link = slice_index_or system.histories link []

abbrev pub events_at : SystemRec → ℕ → List Event
events_at system k = slice_index_or system.events k []

-- What is told of a system at the end of a run: its nodes, the events of each that are kept, and how many more there were; and how much each arc
-- carried, by number.
pub record EndRec : Type 0 where
  pub nodes : List NodeRec
  pub kept : List (List Event)
  pub more : List ℕ
  pub sent : List Sent

-- of a run from slot 0 on
abbrev pub end_of : SystemRec → EndRec
end_of system = record {
  nodes = system.nodes;
  kept = map first_events system.events;
  more = map left_out system.events;
  sent = map sent_in system.histories;
}

-- the node at a position, and how much the arc with a number carried
abbrev pub node_at : EndRec → ℕ → NodeRec
node_at end k = slice_index_or end.nodes k (first_node 0 0 [])

abbrev pub sent_on : EndRec → ℕ → Sent
sent_on end link = slice_index_or end.sent link (0, 0)

-- the events that are kept, by slot, within a slot by node, and each node's in its own order
abbrev pub events_in_order : EndRec → List Placed
events_in_order end = merged end.kept

-- the line that tells how many events of the node at position k were left out, where some were
abbrev pub more_at : EndRec → ℕ → NodePlan → List ℕ
more_at end k node = more_line node.number (slice_index_or end.more k 0)

-- the line that tells what was sent on the directed link with number k
abbrev pub traffic_at : List NodePlan → EndRec → ℕ → Arc → List ℕ
traffic_at nodes end k d = traffic_line (number_at nodes d.from) d.from_end (number_at nodes d.to) d.to_end (sent_on end k)

-- the line that tells how often the level changed that wire w carries, where the arc of the first wire has this number
abbrev pub changes_at : List NodePlan → ℕ → EndRec → ℕ → WirePlan → List ℕ
changes_at nodes first end w wire =
    changes_line (number_at nodes wire.a) wire.a_port (number_at nodes wire.b) wire.b_port (sent_on end (first + w)).0

-- the lines of the halted threads of the node at position k
abbrev pub halted_at : EndRec → ℕ → NodePlan → List ℕ
halted_at end k node = halted_lines node.number 0 (node_at end k).core.threads

-- the lines of the words of its memory that aren't 0
abbrev pub memory_at : EndRec → ℕ → NodePlan → List ℕ
memory_at end k node = memory_lines node.number MEMORY_START (words_of (node_at end k).core.memory)

-- the lines between those of the events and the last: what of the events was left out, what was sent on each directed link, how often the
-- level of each wire changed, the halted threads, and the words of the memories that aren't 0
abbrev pub lines_after_events : PlanRec → EndRec → List ℕ
lines_after_events plan end =
    by_position (more_at end) 0 plan.nodes
    ++ (by_position (traffic_at plan.nodes end) 0 (link_arcs plan.links)
    ++ (by_position (changes_at plan.nodes (length (link_arcs plan.links)) end) 0 plan.wires
    ++ (by_position (halted_at end) 0 plan.nodes
    ++ by_position (memory_at end) 0 plan.nodes)))

-- what is written of a run that has come to this after so many slots: the events in order, those lines, and the last
unfoldable pub end_text : PlanRec → ℕ → EndRec → List ℕ
end_text plan slots end = event_lines plan.nodes (events_in_order end) ++ (lines_after_events plan end ++ end_line slots)

-- the trace of a run of so many slots
unfoldable pub trace_text : PlanRec → ℕ → List ℕ
trace_text plan slots = end_text plan slots (end_of (serial plan slots))

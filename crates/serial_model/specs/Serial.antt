-- The serial machine: all nodes of a system stepped together, slot by slot.
use Rattle.std.specs.Prelude.{ℕ, zero, suc, ◌+◌, Bool, true, false, ◌&&◌, ◌==◌, nat_le, nat_lt, if◌then◌else◌, Option, Some, None, List, [], ◌∷◌, ◌++◌, map, filter, slice_index, slice_index_or}
use Rattle.std.specs.List.{list_any}
use Rattle.xs_base.specs.Numbers.{Slot, Word, Position, LinkNumber, EndNumber, PortNumber}
use Rattle.xs_base.specs.declared.token.Token.{Token}
use Rattle.xs_base.specs.declared.entry.Entry.{Entry}
use Rattle.xs_base.specs.declared.entry.What.{What}
use Rattle.xs_base.specs.declared.entry.What.TheVariants as what
use Rattle.xs_model.specs.declared.event.Event.{Event}
use Rattle.xs_model.specs.declared.outside.Arrivals.{Arrivals}
use Rattle.xs_model.specs.declared.outside.PinView.{PinView}
use Rattle.xs_model.specs.Record.{NodeRec, first_node, port_of}
use Rattle.xs_model.specs.Ports.{level_of}
use Rattle.xs_model.specs.Outside.{Emitted, emitted_events}
use Rattle.pin_scripts.specs.Script.{pin_at, port_numbers}
use Rattle.sys_plan.specs.declared.NodePlan.{NodePlan}
use Rattle.sys_plan.specs.Plan.{PlanRec, Arc, Joined, arcs, incoming, wire_to, delay_of, gaps_of, link_ends, node_numbers}
use Rattle.step_model.specs.Start.{fixed_of, node_of}
use Rattle.step_model.specs.Step.{Stepped, node_step}

-- a system after some slots: nodes and their events by position, histories by the number of the arc, which is a directed link or a wire
pub record SystemRec : Type 0 where
  pub nodes : List NodeRec
  pub histories : List (List Entry)
  pub events : List (List Event)

-- the nodes as they start, the first of which stands at position n
abbrev pub nodes_at_start : PlanRec → Position → List NodePlan → List NodeRec
nodes_at_start plan n [] = []
nodes_at_start plan n (node ∷ nodes) = node_of node (gaps_of plan n) ∷ nodes_at_start plan (n + 1) nodes

-- before the first slot nothing was sent, and nothing happened
abbrev pub system_at_start : PlanRec → SystemRec
system_at_start plan = record {
  nodes = nodes_at_start plan 0 plan.nodes;
  histories = map (λ (d : Arc). []) (arcs plan);
  events = map (λ (node : NodePlan). []) plan.nodes;
}

-- the entries of an arc that arrive in a slot: those that were sent a delay before
abbrev pub arriving : Slot → ℕ → List Entry → List Entry
arriving slot delay history = filter (λ (e : Entry). (e.slot + delay) == slot) history

-- what arrives in a slot by the arc with a number, where there is one
abbrev pub arriving_by : PlanRec → List (List Entry) → Slot → Option LinkNumber → List Entry
arriving_by plan histories slot None = []
arriving_by plan histories slot (Some link) = arriving slot (delay_of plan link) (slice_index_or histories link [])

abbrev pub token_or : What → Option Token → Option Token
token_or (what.Token t) other = Some t
token_or _ other = other

-- the first token among entries
abbrev pub token_among : List Entry → Option Token
token_among [] = None
token_among (e ∷ es) = token_or e.what (token_among es)

-- a token or a credit, as a directed link carries, and no level of a wire
abbrev pub IsNoLevel : What → Type 0
IsNoLevel (what.Level level) = ⊥
IsNoLevel _ = Unit {0}

abbrev pub is_credit : What → Bool
is_credit what.Credit = true
is_credit _ = false

-- whether a credit is among entries
abbrev pub credit_among : List Entry → Bool
credit_among entries = list_any (λ (e : Entry). is_credit e.what) entries

-- what arrives by the link ends of a node, of the entries that arrive by each of them
abbrev pub arrivals_of : (EndNumber → List Entry) → Arrivals
arrivals_of by_end = record { tokens = map token_among (map by_end link_ends); credits = map credit_among (map by_end link_ends) }

-- what arrives at a node in a slot
abbrev pub arrivals_at : PlanRec → List (List Entry) → Slot → Position → Arrivals
arrivals_at plan histories slot node = arrivals_of (λ end. arriving_by plan histories slot (incoming plan node end))

abbrev pub level_or : What → Word → Word
level_or (what.Level level) before = level
level_or _ before = before

-- the level that the last of some entries leaves, where it was this before them
abbrev pub level_after : Word → List Entry → Word
level_after level [] = level
level_after level (e ∷ es) = level_after (level_or e.what level) es

-- the entries of an arc that have arrived by the end of a delay: those that were sent a delay before a slot, or earlier
abbrev pub arrived_by : Slot → ℕ → List Entry → List Entry
arrived_by slot delay history = filter (λ (e : Entry). nat_le (e.slot + delay) slot) history

-- what a wire with this history shows at its second end in a slot: the level that the last entry that has arrived leaves, else the one that
-- it showed before
abbrev pub level_on : Word → Slot → ℕ → List Entry → Word
level_on before slot delay history = level_after before (arrived_by slot delay history)

-- what each arc, by number, showed at its second end before anything of its history arrived: 0 where the list ends. Only wires show levels
abbrev pub shown_of : List Word → LinkNumber → Word
shown_of shown wire = slice_index_or shown wire 0

-- what a pin of a node of a plan shows in a slot, where its port does not drive it: by the wire that comes to it, where one does, and
-- then no line of the script tells; else by the script
abbrev pub pin_level_on : List Word → PlanRec → List (List Entry) → Position → Slot → PortNumber → Option LinkNumber → Word
pin_level_on shown plan histories node slot port None = pin_at plan.script (slice_index (node_numbers plan) node) port slot
pin_level_on shown plan histories node slot port (Some wire) = level_on (shown_of shown wire) slot (delay_of plan wire) (slice_index_or histories wire [])

-- what the pins of the node at a position show in a slot, where its ports do not drive them, when the arcs have these histories
abbrev pub pins_on : List Word → PlanRec → List (List Entry) → Position → Slot → PinView
pins_on shown plan histories node slot =
    record { level = map (λ port. pin_level_on shown plan histories node slot port (wire_to plan node port)) port_numbers }

-- the same, where the histories are whole: before them a wire shows 0
abbrev pub wire_level : Slot → ℕ → List Entry → Word
wire_level slot delay history = level_on 0 slot delay history

abbrev pub pin_level : PlanRec → List (List Entry) → Position → Slot → PortNumber → Option LinkNumber → Word
pin_level plan histories node slot port wire = pin_level_on [] plan histories node slot port wire

abbrev pub pins_at : PlanRec → List (List Entry) → Position → Slot → PinView
pins_at plan histories node slot = pins_on [] plan histories node slot

-- what comes to a node in a slot: what arrives by its link ends, and what its pins show from outside, by the script and by wires
pub record Coming : Type 0 where
  pub arrivals : Arrivals
  pub pins : PinView

-- what comes in a slot to the node at a position, when the arcs have these histories
abbrev pub coming_on : List Word → PlanRec → List (List Entry) → Slot → Position → Coming
coming_on shown plan histories slot node = record { arrivals = arrivals_at plan histories slot node; pins = pins_on shown plan histories node slot }

abbrev pub coming_at : PlanRec → List (List Entry) → Slot → Position → Coming
coming_at plan histories slot node = coming_on [] plan histories slot node

-- the step of a node of a plan, at a position, in a slot in which this comes to it
abbrev pub step_by : PlanRec → Position → NodePlan → Slot → Coming → NodeRec → Stepped
step_by plan n node slot coming rec = node_step (fixed_of node (gaps_of plan n)) rec slot coming.arrivals coming.pins

-- the step of each node in a slot, the first of which stands at position n
abbrev pub steps_from_on : List Word → PlanRec → List (List Entry) → Slot → Position → List NodePlan → List NodeRec → List Stepped
steps_from_on shown plan histories slot n (node ∷ nodes) (rec ∷ recs) =
    step_by plan n node slot (coming_on shown plan histories slot n) rec
    ∷ steps_from_on shown plan histories slot (n + 1) nodes recs
steps_from_on shown plan histories slot n _ _ = []

abbrev pub steps_from : PlanRec → List (List Entry) → Slot → Position → List NodePlan → List NodeRec → List Stepped
steps_from plan histories slot n nodes recs = steps_from_on [] plan histories slot n nodes recs

-- the steps of all nodes in a slot
abbrev pub steps_on : List Word → PlanRec → Slot → SystemRec → List Stepped
steps_on shown plan slot system = steps_from_on shown plan system.histories slot 0 plan.nodes system.nodes

abbrev pub steps_of : PlanRec → Slot → SystemRec → List Stepped
steps_of plan slot system = steps_on [] plan slot system

abbrev pub token_entries : Slot → Option Token → List Entry
token_entries slot None = []
token_entries slot (Some t) = record { slot = slot; what = what.Token t } ∷ []

abbrev pub credit_entries : Slot → Bool → List Entry
credit_entries slot false = []
credit_entries slot true = record { slot = slot; what = what.Credit } ∷ []

-- what a node's slot sends by a link end: the token, then the credit
abbrev pub sent_by : Slot → Emitted → EndNumber → List Entry
sent_by slot emitted end =
    token_entries slot (slice_index_or emitted.tokens end None) ++ credit_entries slot (slice_index_or emitted.credits end false)

-- the level that a port drives, 0 where it drives none
abbrev pub driven_level : NodeRec → PortNumber → Word
driven_level rec port = level_of (port_of rec.core port).driven 0

-- what a wire is told of a slot, of the level before it and after it
abbrev pub level_entries : Slot → Word → Word → List Entry
level_entries slot before after = if after == before then [] else record { slot = slot; what = what.Level after } ∷ []

-- what an arc that leaves by an end carries of a slot that made this of its node, and in which the node emitted this: of a link, what its
-- link end sent; of a wire, the level that its first pin drives after the slot, where that is another than before it
abbrev pub carried_by : Slot → NodeRec → NodeRec → Emitted → EndNumber → Option Joined → List Entry
carried_by slot before after emitted end None = sent_by slot emitted end
carried_by slot before after emitted end (Some joined) =
    level_entries slot (driven_level before joined.from_port) (driven_level after joined.from_port)

-- the node at a position, and what it emitted
abbrev pub node_by : List NodeRec → Position → NodeRec
node_by nodes node = slice_index_or nodes node (first_node 0 0 [])

abbrev pub emitted_by : List Stepped → Position → Emitted
emitted_by steps node = slice_index_or (map (λ (s : Stepped). s.emitted) steps) node (emitted_events [])

-- what an arc carries of the steps that these nodes made in a slot
abbrev pub carried : Slot → List NodeRec → List Stepped → Arc → List Entry
carried slot nodes steps d =
    carried_by slot (node_by nodes d.from) (node_by (map (λ (s : Stepped). s.rec) steps) d.from) (emitted_by steps d.from) d.from_end d.joins

-- each history goes on with what its arc carries
abbrev pub longer_histories : Slot → List NodeRec → List Stepped → List Arc → List (List Entry) → List (List Entry)
longer_histories slot nodes steps (d ∷ ds) (history ∷ histories) =
    (history ++ carried slot nodes steps d) ∷ longer_histories slot nodes steps ds histories
longer_histories slot nodes steps _ _ = []

-- the events of each node go on with those of its slot
abbrev pub longer_events : List Stepped → List (List Event) → List (List Event)
longer_events (s ∷ steps) (events ∷ all) = (events ++ s.emitted.events) ∷ longer_events steps all
longer_events _ _ = []

-- the system after the steps of a slot
abbrev pub system_after : PlanRec → Slot → SystemRec → List Stepped → SystemRec
system_after plan slot system steps = record {
  nodes = map (λ (s : Stepped). s.rec) steps;
  histories = longer_histories slot system.nodes steps (arcs plan) system.histories;
  events = longer_events steps system.events;
}

-- one slot of the whole system
abbrev pub step_on : List Word → PlanRec → Slot → SystemRec → SystemRec
step_on shown plan slot system = system_after plan slot system (steps_on shown plan slot system)

abbrev pub system_step : PlanRec → Slot → SystemRec → SystemRec
system_step plan slot system = step_on [] plan slot system

-- the system after so many slots
unfoldable pub serial : PlanRec → Slot → SystemRec
serial plan zero = system_at_start plan
serial plan (suc slot) = system_step plan slot (serial plan slot)

-- a system before a slot, from which on it is stepped, and what each arc showed before anything of these histories arrived
pub record Begun : Type 0 where
  pub slot : Slot
  pub system : SystemRec
  pub shown : List Word

-- a system as it starts
abbrev pub begun_at_start : PlanRec → Begun
begun_at_start plan = record { slot = 0; system = system_at_start plan; shown = [] }

-- the system so many slots later
unfoldable pub since : PlanRec → Begun → ℕ → SystemRec
since plan begun zero = begun.system
since plan begun (suc n) = step_on begun.shown plan (begun.slot + n) (since plan begun n)

-- whether an entry was sent in a slot from one on and before another
abbrev pub is_sent_within : Slot → Slot → Entry → Bool
is_sent_within from to e = nat_le from e.slot && nat_lt e.slot to

-- what an arc carried in the slots from one on and before another
abbrev pub history : PlanRec → LinkNumber → Slot → Slot → List Entry
history plan link from to = filter (is_sent_within from to) (slice_index_or (serial plan to).histories link [])

-- How a snapshot's slot, its nodes, and its directed links and wires stand in bytes, where its text is that of a plan.
use Rattle.std.specs.Prelude.{ℕ, ◌*◌, nat_lt, Bool, Option, Some, None, List, [], ◌∷◌, ◌++◌, length, map, take, drop, slice_index_or, slice_get}
use Rattle.xs_base.specs.Numbers.{Slot, Position, EndNumber}
use Rattle.xs_base.specs.Ids.{port_width}
use Rattle.sys_plan.specs.declared.LinkPlan.{LinkPlan}
use Rattle.sys_plan.specs.declared.WirePlan.{WirePlan}
use Rattle.sys_plan.specs.Plan.{PlanRec, gaps_of}
use Rattle.link_ends.specs.States.{absent_end}
use Rattle.link_ends.specs.declared.state.EndState.{EndState}
use Rattle.snap_parts.specs.declared.node.SnapNode.{SnapNode}
use Rattle.snap_parts.specs.Parts.{LogRec, BodyRec}
use Rattle.byte_forms.specs.Forms.{Form, word, both, chain, told_by}
use Rattle.log_forms.specs.declared.ends.Held.{Held}
use Rattle.log_forms.specs.Windows.{EndsRec}
use Rattle.log_forms.specs.Logs.{link_log, wire_log}
use Rattle.node_forms.specs.Nodes.{snap_node}

-- ---- Nodes

-- which link ends a plan has of the node at a position: those with a gap
abbrev pub there_of : PlanRec → Position → List Bool
there_of plan n = map (λ gap. nat_lt 0 gap) (gaps_of plan n)

-- the node after these, by its position
abbrev pub node_after : PlanRec → Slot → List SnapNode → Form SnapNode
node_after plan slot before = snap_node (there_of plan (length before)) slot

-- the nodes of a plan by position
abbrev pub nodes : PlanRec → Slot → Form (List SnapNode)
nodes plan slot = chain (length plan.nodes) (node_after plan slot)

-- ---- The two directed links of a link

-- what a link end of a node holds
abbrev pub held_by : EndState → Held
held_by end = record { window = end.window; buffered = length end.buffer.items }

abbrev pub end_of : EndNumber → Option SnapNode → EndState
end_of end None = absent_end
end_of end (Some node) = slice_index_or node.state.ends end absent_end

abbrev pub held_at : List SnapNode → Position → EndNumber → Held
held_at all n end = held_by (end_of end (slice_get all n))

-- what is known of a link's ends, where the first directed link is this, in a snapshot with these nodes
abbrev pub ends_of : List SnapNode → LinkPlan → LogRec → EndsRec
ends_of all link forth = record { forth = forth.entries; a = held_at all link.a link.a_end; b = held_at all link.b link.b_end }

-- the directed link that leads back, where this one leads forth
abbrev pub link_back : Slot → List SnapNode → LinkPlan → LogRec → Form LogRec
link_back slot all link forth = link_log slot link.delay (Some (ends_of all link forth))

-- forth and back
unfoldable pub link_pair : Slot → List SnapNode → LinkPlan → Form (LogRec × LogRec)
link_pair slot all link = both (link_log slot link.delay None) (link_back slot all link)

-- ---- Directed links and wires by number

-- the link and the wire with a number. There is none at other numbers, of which nothing is asked
abbrev pub link_at : List LinkPlan → ℕ → LinkPlan
link_at links k = slice_index_or links k (record { a = 0; a_end = 0; b = 0; b_end = 0; delay = 0; gap = 0; net = 0 })

abbrev pub wire_at : List WirePlan → ℕ → WirePlan
wire_at wires k = slice_index_or wires k (record { a = 0; a_port = 0; b = 0; b_port = 0; delay = 0 })

-- the pair of the link after these
abbrev pub pair_after : PlanRec → Slot → List SnapNode → List (LogRec × LogRec) → Form (LogRec × LogRec)
pair_after plan slot all before = link_pair slot all (link_at plan.links (length before))

-- the wire after these
abbrev pub wire_after : PlanRec → Slot → List LogRec → Form LogRec
wire_after plan slot before = let wire = wire_at plan.wires (length before) in wire_log slot wire.delay (port_width wire.b_port)

-- pairs one after another, and each two as a pair
abbrev pub by_number : List (LogRec × LogRec) → List LogRec
by_number [] = []
by_number (pair ∷ pairs) = pair.0 ∷ (pair.1 ∷ by_number pairs)

abbrev pub in_pairs : List LogRec → List (LogRec × LogRec)
in_pairs [] = []
in_pairs (forth ∷ []) = []
in_pairs (forth ∷ (back ∷ rest)) = (forth, back) ∷ in_pairs rest

-- the directed links of a plan by number, in a snapshot with these nodes
abbrev pub links : PlanRec → Slot → List SnapNode → Form (List LogRec)
links plan slot all = told_by (chain (length plan.links) (pair_after plan slot all)) by_number in_pairs

-- the wires of a plan in order
abbrev pub wires : PlanRec → Slot → Form (List LogRec)
wires plan slot = chain (length plan.wires) (wire_after plan slot)

-- What is written of a directed link or a wire asks for no facts.
abbrev pub any_log : Form LogRec
any_log = wire_log 0 0 0

-- ---- All after the text

abbrev pub BodyFields : Type 0
BodyFields = Slot × (List SnapNode × (List LogRec × List LogRec))

abbrev pub body_of_fields : BodyFields → BodyRec
body_of_fields f = record { slot = f.0; nodes = f.1.0; logs = f.1.1.0 ++ f.1.1.1 }

-- the wires come after so many directed links
abbrev pub fields_of_body : ℕ → BodyRec → BodyFields
fields_of_body directed b = (b.slot, (b.nodes, (take directed b.logs, drop directed b.logs)))

abbrev pub directed_of : PlanRec → ℕ
directed_of plan = 2 * length plan.links

unfoldable pub body : PlanRec → Form BodyRec
body plan =
    told_by (both word (λ slot. both (nodes plan slot) (λ all. both (links plan slot all) (λ directed. wires plan slot)))) body_of_fields
    (fields_of_body (directed_of plan))

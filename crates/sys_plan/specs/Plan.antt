-- The plan of a system: its nodes, the links and wires between them, the script of its pins, and the steps of its schedule.
use Rattle.std.specs.Prelude.{ℕ, zero, suc, ◌≡◌, ◌≢◌, ◌+◌, ◌<◌, ◌≤◌, Bool, false, ◌&&◌, ◌||◌, ◌==◌, if◌then◌else◌, Option, Some, None, IsSome, List, [], ◌∷◌, ◌++◌, length, map, filter, slice_index}
use Rattle.std.specs.List.{AllByRecursion}
use Rattle.std.specs.Int.{bit_at}
use Rattle.xs_base.specs.Ids.{port_width}
use Rattle.pin_scripts.specs.declared.line.PinLine.{PinLine}
use Rattle.pin_scripts.specs.Script.{IsScript, IsOfNodes}
use Rattle.sys_plan.specs.declared.NodePlan.{NodePlan}
use Rattle.sys_plan.specs.declared.LinkPlan.{LinkPlan}
use Rattle.sys_plan.specs.declared.WirePlan.{WirePlan}
use Rattle.sys_plan.specs.declared.Step.{Step}
use Rattle.sys_plan.specs.declared.Step.TheVariants.{Take, Run, Send}

-- nodes by ascending number, and links, script, steps and wires in the order of their lines; a link, a step and a wire name their nodes by
-- position, and the script by number
pub record PlanRec : Type 0 where
  pub nodes : List NodePlan
  pub links : List LinkPlan
  pub script : List PinLine
  pub steps : List Step
  pub wires : List WirePlan

-- the ports whose pins a wire joins: what the first one drives, the other shows
pub record Joined : Type 0 where
  pub from_port : ℕ
  pub to_port : ℕ

-- an arc: what leads one way from an end of a node to an end of another, with the delay and the gap in slots. It is a directed link, or a
-- wire, which joins pins and has no gap
pub record Arc : Type 0 where
  pub from : ℕ
  pub from_end : ℕ
  pub to : ℕ
  pub to_end : ℕ
  pub delay : ℕ
  pub gap : ℕ
  pub joins : Option Joined

-- from the first end of a link to the second, and back
abbrev pub forth : LinkPlan → Arc
forth link = record { from = link.a; from_end = link.a_end; to = link.b; to_end = link.b_end; delay = link.delay; gap = link.gap; joins = None }

abbrev pub back : LinkPlan → Arc
back link = record { from = link.b; from_end = link.b_end; to = link.a; to_end = link.a_end; delay = link.delay; gap = link.gap; joins = None }

-- the arcs of links by number, two for each: 2k leads from the first to the second end of link k, and 2k + 1 leads back
abbrev pub link_arcs : List LinkPlan → List Arc
link_arcs [] = []
link_arcs (link ∷ links) = forth link ∷ (back link ∷ link_arcs links)

-- how many of these wires leave a node, and how many come to it
abbrev pub count_from : ℕ → List WirePlan → ℕ
count_from node wires = length (filter (λ (wire : WirePlan). wire.a == node) wires)

abbrev pub count_to : ℕ → List WirePlan → ℕ
count_to node wires = length (filter (λ (wire : WirePlan). wire.b == node) wires)

-- a wire, where these stand before it: the wires that leave a node are its ends from 8 on in their order, and so are those that come to it,
-- counted apart
abbrev pub along : List WirePlan → WirePlan → Arc
along earlier wire = record {
  from = wire.a;
  from_end = 8 + count_from wire.a earlier;
  to = wire.b;
  to_end = 8 + count_to wire.b earlier;
  delay = wire.delay;
  gap = 0;
  joins = Some (record { from_port = wire.a_port; to_port = wire.b_port });
}

-- the arcs of wires by number, where these stand before them
abbrev pub wire_arcs : List WirePlan → List WirePlan → List Arc
wire_arcs earlier [] = []
wire_arcs earlier (wire ∷ wires) = along earlier wire ∷ wire_arcs (wire ∷ earlier) wires

-- the arcs of a plan by number, those of its links and then those of its wires, and how many they are
abbrev pub arcs : PlanRec → List Arc
arcs plan = link_arcs plan.links ++ wire_arcs [] plan.wires

abbrev pub arc_count : PlanRec → ℕ
arc_count plan = length (arcs plan)

abbrev pub leaves_by : ℕ → ℕ → Arc → Bool
leaves_by node end d = (d.from == node) && (d.from_end == end)

abbrev pub comes_to : ℕ → ℕ → Arc → Bool
comes_to node end d = (d.to == node) && (d.to_end == end)

-- the number of the first of these arcs, counted from n, that passes a test
abbrev pub first_arc : (Arc → Bool) → ℕ → List Arc → Option ℕ
first_arc test n [] = None
first_arc test n (d ∷ ds) = if test d then Some n else first_arc test (n + 1) ds

-- the arc that leaves by an end of a node, and the one that comes to it, where there is one
abbrev pub outgoing : PlanRec → ℕ → ℕ → Option ℕ
outgoing plan node end = first_arc (leaves_by node end) 0 (arcs plan)

abbrev pub incoming : PlanRec → ℕ → ℕ → Option ℕ
incoming plan node end = first_arc (comes_to node end) 0 (arcs plan)

-- the arc of the wire that comes to the pin of a port of a node, where one does
abbrev pub joins_to : ℕ → Option Joined → Bool
joins_to port None = false
joins_to port (Some joined) = joined.to_port == port

abbrev pub comes_to_pin : ℕ → ℕ → Arc → Bool
comes_to_pin node port d = (d.to == node) && joins_to port d.joins

abbrev pub wire_to : PlanRec → ℕ → ℕ → Option ℕ
wire_to plan node port = first_arc (comes_to_pin node port) 0 (arcs plan)

-- the delay and the gap of the arc with a number, in slots
abbrev pub delay_of : PlanRec → ℕ → ℕ
delay_of plan link = slice_index (map (λ (d : Arc). d.delay) (arcs plan)) link

abbrev pub gap_of : PlanRec → ℕ → ℕ
gap_of plan link = slice_index (map (λ (d : Arc). d.gap) (arcs plan)) link

-- the gap of the arc that leaves by a link end, 0 where none does
abbrev pub gap_by : PlanRec → Option ℕ → ℕ
gap_by plan None = 0
gap_by plan (Some link) = gap_of plan link

-- the numbers of a node's link ends
abbrev pub link_ends : List ℕ
link_ends = 0 ∷ 1 ∷ 2 ∷ 3 ∷ 4 ∷ 5 ∷ 6 ∷ 7 ∷ []

-- so many numbers from one on
abbrev pub numbers_from : ℕ → ℕ → List ℕ
numbers_from n zero = []
numbers_from n (suc count) = n ∷ numbers_from (n + 1) count

-- the numbers of the ends of a node to which arcs may come, and of those by which arcs may leave: its link ends, and one for each wire that
-- there may be
abbrev pub ends_in : PlanRec → ℕ → List ℕ
ends_in plan node = link_ends ++ numbers_from 8 32

abbrev pub ends_out : PlanRec → ℕ → List ℕ
ends_out plan node = link_ends ++ numbers_from 8 32

-- the gap of each link end of a node, 0 where no link is
abbrev pub gaps_of : PlanRec → ℕ → List ℕ
gaps_of plan node = map (λ end. gap_by plan (outgoing plan node end)) link_ends

-- nothing stands twice
abbrev pub AreDistinct : {X : Type 0} → List X → Type 0
AreDistinct [] = Unit {0}
AreDistinct (x ∷ xs) = AllByRecursion (λ y. x ≢ y) xs × AreDistinct xs

-- each number is above the one before it
abbrev pub AreAscending : List ℕ → Type 0
AreAscending [] = Unit {0}
AreAscending (x ∷ []) = Unit {0}
AreAscending (x ∷ y ∷ rest) = (x < y) × AreAscending (y ∷ rest)

-- the link ends of both ends of each link: the node and the number
abbrev pub places_of : List LinkPlan → List (ℕ × ℕ)
places_of [] = []
places_of (link ∷ links) = (link.a, link.a_end) ∷ ((link.b, link.b_end) ∷ places_of links)

-- a link joins link ends of two of so many nodes, and its delay, its gap and its network are within their ranges
pub record IsLink (nodes : ℕ) (link : LinkPlan) : Type 0 where
  pub a : link.a < nodes
  pub b : link.b < nodes
  pub apart : link.a ≢ link.b
  pub a_end : link.a_end < 8
  pub b_end : link.b_end < 8
  pub least_delay : 1 ≤ link.delay
  pub most_delay : link.delay ≤ 1000
  pub least_gap : 4 ≤ link.gap
  pub most_gap : link.gap ≤ 1000
  pub most_net : link.net ≤ 3

-- a wire joins pins of two of so many nodes, which are equally many, and its delay is within its range
pub record IsWire (nodes : ℕ) (wire : WirePlan) : Type 0 where
  pub a : wire.a < nodes
  pub b : wire.b < nodes
  pub apart : wire.a ≢ wire.b
  pub a_port : wire.a_port < 29
  pub b_port : wire.b_port < 29
  pub widths : port_width wire.a_port ≡ port_width wire.b_port
  pub least_delay : 1 ≤ wire.delay
  pub most_delay : wire.delay ≤ 1000

-- the pins at the second ends of wires: the node and the port
abbrev pub targets_of : List WirePlan → List (ℕ × ℕ)
targets_of wires = map (λ (wire : WirePlan). (wire.b, wire.b_port)) wires

-- each link end that the ways of a node name, for some bit of an id, is there
abbrev pub WaysLead : PlanRec → ℕ → List ℕ → Type 0
WaysLead plan node ways = (bit end : ℕ) → bit < 16 → end < 8 → bit_at (slice_index ways bit) end ≡ 1 → IsSome (outgoing plan node end)

-- that is so of these nodes, the first of which stands at position n
abbrev pub AllWaysLead : PlanRec → ℕ → List NodePlan → Type 0
AllWaysLead plan n [] = Unit {0}
AllWaysLead plan n (node ∷ nodes) = WaysLead plan n node.ways × AllWaysLead plan (n + 1) nodes

-- a step of a schedule names a node that is there, and an end of it that has an arc
abbrev pub NamesWhatIsThere : PlanRec → Step → Type 0
NamesWhatIsThere plan (Take node end) = (node < length plan.nodes) × IsSome (incoming plan node end)
NamesWhatIsThere plan (Run node count) = node < length plan.nodes
NamesWhatIsThere plan (Send node end) = (node < length plan.nodes) × IsSome (outgoing plan node end)

-- the numbers of the nodes
abbrev pub node_numbers : PlanRec → List ℕ
node_numbers plan = map (λ (node : NodePlan). node.number) plan.nodes

-- whether a link is at a link end of a node
abbrev pub is_at : ℕ → ℕ → LinkPlan → Bool
is_at node end link = ((link.a == node) && (link.a_end == end)) || ((link.b == node) && (link.b_end == end))

-- the network of the link at a link end of a node, 0 where no link is
abbrev pub net_at : List LinkPlan → ℕ → ℕ → ℕ
net_at [] node end = 0
net_at (link ∷ links) node end = if is_at node end link then link.net else net_at links node end

-- the network of the link at each link end of a node
abbrev pub nets_at : List LinkPlan → ℕ → List ℕ
nets_at links node = map (net_at links node) link_ends

-- these nodes, the first of which stands at position n, know the networks of their links
abbrev pub AllKnowNets : List LinkPlan → ℕ → List NodePlan → Type 0
AllKnowNets links n [] = Unit {0}
AllKnowNets links n (node ∷ nodes) = (node.nets ≡ nets_at links n) × AllKnowNets links (n + 1) nodes

-- the edition of the nodes, which is that of the first one; without nodes it is 1
abbrev pub edition_of : List NodePlan → ℕ
edition_of [] = 1
edition_of (node ∷ nodes) = node.edition

-- what every plan keeps
pub record IsPlan (plan : PlanRec) : Type 0 where
  pub few_nodes : length plan.nodes ≤ 16
  pub few_links : length plan.links ≤ 48
  pub numbers : AllByRecursion (λ (node : NodePlan). node.number < 100) plan.nodes
  pub order : AreAscending (node_numbers plan)
  -- all nodes are of one edition, 1 or 2
  pub least_edition : 1 ≤ edition_of plan.nodes
  pub most_edition : edition_of plan.nodes ≤ 2
  pub editions : AllByRecursion (λ (node : NodePlan). node.edition ≡ edition_of plan.nodes) plan.nodes
  pub nets : AllKnowNets plan.links 0 plan.nodes
  -- in edition 1 every link is of network 0
  pub one_network : edition_of plan.nodes ≡ 1 → AllByRecursion (λ (link : LinkPlan). link.net ≡ 0) plan.links
  pub ids : AreDistinct (map (λ (node : NodePlan). node.id) plan.nodes)
  pub links : AllByRecursion (IsLink (length plan.nodes)) plan.links
  -- no link end belongs to two links
  pub places : AreDistinct (places_of plan.links)
  pub ways : AllWaysLead plan 0 plan.nodes
  pub script : IsScript plan.script
  -- the script drives pins of nodes that are there
  pub script_nodes : IsOfNodes (node_numbers plan) plan.script
  pub steps : AllByRecursion (NamesWhatIsThere plan) plan.steps
  pub few_wires : length plan.wires ≤ 32
  -- in edition 1 there are no wires
  pub no_wires : edition_of plan.nodes ≡ 1 → plan.wires ≡ []
  pub wires : AllByRecursion (IsWire (length plan.nodes)) plan.wires
  -- no pin is the second end of two wires
  pub targets : AreDistinct (targets_of plan.wires)

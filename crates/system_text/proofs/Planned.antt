-- The plan of a frame that is accepted keeps what every plan keeps.
use Rattle.std.proofs.Common.{◌≡◌, ℕ, suc, ◌+◌, ◌<◌, ◌≤◌, true, List, [], ◌∷◌, ◌++◌, length, map, Result, Ok, Err, refl, ap, sym, ◌∙◌, subst, arith}
use Rattle.std.specs.Prelude.{◌≢◌, Bool, ◌&&◌, false, ◌==◌, ◌||◌, IsSome}
use Rattle.std.specs.List.{AllByRecursion}
use Rattle.std.proofs.lemmas.Bool.Decides.{nat_tests}
use Rattle.source_model.specs.Source.{Assembled, Image, Fault, assembled_lines}
use Rattle.pin_scripts.specs.declared.line.PinLine.{PinLine}
use Rattle.pin_scripts.specs.Script.{IsScript, IsOfNodes}
use Rattle.sys_plan.specs.Plan.{PlanRec, IsPlan, IsLink, IsWire, NamesWhatIsThere, AllWaysLead, WaysLead, link_ends, net_at, nets_at, AllKnowNets, edition_of, AreDistinct, AreAscending, places_of, targets_of, link_arcs, wire_arcs, first_arc, leaves_by, comes_to, outgoing, incoming}
use Rattle.sys_plan.specs.declared.LinkPlan.{LinkPlan}
use Rattle.sys_plan.specs.declared.NodePlan.{NodePlan}
use Rattle.sys_plan.specs.declared.Step.{Step}
use Rattle.sys_plan.specs.declared.WirePlan.{WirePlan}
use Rattle.system_model.specs.declared.frame_line.EndName.{EndName}
use Rattle.system_model.specs.declared.frame_line.GivenNode.{GivenNode}
use Rattle.system_model.specs.declared.frame_line.LinkLine.{LinkLine}
use Rattle.system_model.specs.declared.frame_line.PinName.{PinName}
use Rattle.system_model.specs.declared.frame_line.PlayLine.{PlayLine}
use Rattle.system_model.specs.declared.frame_line.PlayLine.TheVariants.{Take, Run, Send}
use Rattle.system_model.specs.declared.frame_line.SectionKind.TheVariants as section
use Rattle.system_model.specs.declared.frame_line.WireLine.{WireLine}
use Rattle.system_model.specs.Bits.{BitRec}
use Rattle.system_model.specs.Frame.{SectionText, Given, has_node, has_link_end, count_leaving, count_coming, is_wire_end, has_end_in, has_end_out, is_step_of}
use Rattle.system_model.specs.System.{SourceFault, planned, plan_before, section_lines, node_plans, link_plan, wire_plan, step_plan, position_by_number, ways_of, net_of_end, nets_of, edition_given}
use Rattle.system_text.specs.Accepted.{IsLinkOf, IsWireOf, AreAccepted, AreOfOneNetwork, IsOfEdition, IsAccepted, ends_of}
use Rattle.system_text.proofs.Places.{Stand, stand, within, same_number, same_test}
use Rattle.system_text.proofs.Plans.{node_plans-cons, node_plans-none}
use Rattle.system_text.proofs.WireEnds.{in_first, in_second, wire_leaves, wire_comes}
use Rattle.system_text.proofs.Ways.{ways_lead, leaves, comes}

-- The plans of nodes, one for each

record PlanOf (edition : ℕ) (links : List LinkLine) (bits : List BitRec) (node : GivenNode) (plan : NodePlan) : Type 0 where
  pub number : plan.number ≡ node.number
  pub id : plan.id ≡ node.id
  pub ways : plan.ways ≡ ways_of bits node.number
  pub of_edition : plan.edition ≡ edition
  pub nets : plan.nets ≡ nets_of links node.number

abbrev PlansOf : ℕ → List LinkLine → List BitRec → List GivenNode → List NodePlan → Type 0
PlansOf edition links bits [] [] = Unit {0}
PlansOf edition links bits [] (plan ∷ plans) = ⊥
PlansOf edition links bits (node ∷ nodes) [] = ⊥
PlansOf edition links bits (node ∷ nodes) (plan ∷ plans) = PlanOf edition links bits node plan × PlansOf edition links bits nodes plans

plan_of_one : (edition : ℕ) (links : List LinkLine) (bits : List BitRec) (node : GivenNode) (source : Assembled) (plan : NodePlan) → planned edition links bits node source ≡ Ok plan → PlanOf edition links bits node plan
plan_of_one edition links bits node (Fault line kind) plan e = absurd cc
plan_of_one edition links bits node (Image image) plan e =
    let made : NodePlan = record {
      number = node.number;
      edition = edition;
      id = node.id;
      image = image;
      ways = ways_of bits node.number;
      nets = nets_of links node.number;
    } in
    let same : made ≡ plan = cc in
    subst (PlanOf edition links bits node) same (record { number = refl; id = refl; ways = refl; of_edition = refl; nets = refl })

plans_by : (edition : ℕ) (links : List LinkLine) (bits : List BitRec) (node : GivenNode) (nodes : List GivenNode) (first : Result NodePlan SourceFault) (rest : Result (List NodePlan) SourceFault) (plans : List NodePlan) →
    ((plan : NodePlan) → first ≡ Ok plan → PlanOf edition links bits node plan) → ((later : List NodePlan) → rest ≡ Ok later → PlansOf edition links bits nodes later) →
    plan_before first rest ≡ Ok plans → PlansOf edition links bits (node ∷ nodes) plans
plans_by edition links bits node nodes (Err fault) rest plans h k e = absurd cc
plans_by edition links bits node nodes (Ok plan) (Err fault) plans h k e = absurd cc
plans_by edition links bits node nodes (Ok plan) (Ok later) plans h k e =
    let same : plan ∷ later ≡ plans = cc in
    subst (PlansOf edition links bits (node ∷ nodes)) same (h plan refl, k later refl)

plans_of : (edition : ℕ) (links : List LinkLine) (bits : List BitRec) (sections : List SectionText) (nodes : List GivenNode) (plans : List NodePlan) → node_plans edition links bits sections nodes ≡ Ok plans → PlansOf edition links bits nodes plans
plans_of edition links bits sections [] plans e =
    let is : Ok [] ≡ Ok plans = sym (node_plans-none edition links bits sections) ∙ e in
    let same : [] ≡ plans = cc in
    subst (PlansOf edition links bits []) same tt
plans_of edition links bits sections (node ∷ nodes) plans e =
    let source : Assembled = assembled_lines (section_lines sections (section.Source node.number)) in
    plans_by edition links bits node nodes (planned edition links bits node source) (node_plans edition links bits sections nodes) plans (plan_of_one edition links bits node source) (plans_of edition links bits sections nodes)
    (sym (node_plans-cons edition links bits sections node nodes) ∙ e)

-- What the plans of nodes keep

as_many : (edition : ℕ) (links : List LinkLine) (bits : List BitRec) (nodes : List GivenNode) (plans : List NodePlan) → PlansOf edition links bits nodes plans → length nodes ≡ length plans
as_many edition links bits [] [] k = refl
as_many edition links bits [] (plan ∷ plans) k = absurd k
as_many edition links bits (node ∷ nodes) [] k = absurd k
as_many edition links bits (node ∷ nodes) (plan ∷ plans) k = ap suc (as_many edition links bits nodes plans k.1)

same_numbers : (edition : ℕ) (links : List LinkLine) (bits : List BitRec) (nodes : List GivenNode) (plans : List NodePlan) → PlansOf edition links bits nodes plans →
    map (λ (node : GivenNode). node.number) nodes ≡ map (λ (plan : NodePlan). plan.number) plans
same_numbers edition links bits [] [] k = refl
same_numbers edition links bits [] (plan ∷ plans) k = absurd k
same_numbers edition links bits (node ∷ nodes) [] k = absurd k
same_numbers edition links bits (node ∷ nodes) (plan ∷ plans) k = rw (k.0.number, same_numbers edition links bits nodes plans k.1) refl

same_ids : (edition : ℕ) (links : List LinkLine) (bits : List BitRec) (nodes : List GivenNode) (plans : List NodePlan) → PlansOf edition links bits nodes plans →
    map (λ (node : GivenNode). node.id) nodes ≡ map (λ (plan : NodePlan). plan.id) plans
same_ids edition links bits [] [] k = refl
same_ids edition links bits [] (plan ∷ plans) k = absurd k
same_ids edition links bits (node ∷ nodes) [] k = absurd k
same_ids edition links bits (node ∷ nodes) (plan ∷ plans) k = rw (k.0.id, same_ids edition links bits nodes plans k.1) refl

numbers_kept : (edition : ℕ) (links : List LinkLine) (bits : List BitRec) (nodes : List GivenNode) (plans : List NodePlan) → PlansOf edition links bits nodes plans →
    AllByRecursion (λ (node : GivenNode). node.number ≤ 99) nodes → AllByRecursion (λ (plan : NodePlan). plan.number < 100) plans
numbers_kept edition links bits [] [] k h = tt
numbers_kept edition links bits [] (plan ∷ plans) k h = absurd k
numbers_kept edition links bits (node ∷ nodes) [] k h = absurd k
numbers_kept edition links bits (node ∷ nodes) (plan ∷ plans) k h = (omega (arith, k.0.number, h.0), numbers_kept edition links bits nodes plans k.1 h.1)

-- what is so of the plan of any node is so of each of them
each_kept : (P : NodePlan → Type 0) (edition : ℕ) (links : List LinkLine) (bits : List BitRec) → ((node : GivenNode) (plan : NodePlan) → PlanOf edition links bits node plan → P plan) →
    (nodes : List GivenNode) (plans : List NodePlan) → PlansOf edition links bits nodes plans → AllByRecursion P plans
each_kept P edition links bits of [] [] k = tt
each_kept P edition links bits of [] (plan ∷ plans) k = absurd k
each_kept P edition links bits of (node ∷ nodes) [] k = absurd k
each_kept P edition links bits of (node ∷ nodes) (plan ∷ plans) k = (of node plan k.0, each_kept P edition links bits of nodes plans k.1)

-- the plans' edition is that of the nodes, where these have one that may be
least_kept : (edition : ℕ) (links : List LinkLine) (bits : List BitRec) (nodes : List GivenNode) (plans : List NodePlan) → PlansOf edition links bits nodes plans → 1 ≤ edition → 1 ≤ edition_of plans
least_kept edition links bits [] [] k h = omega arith
least_kept edition links bits [] (plan ∷ plans) k h = absurd k
least_kept edition links bits (node ∷ nodes) [] k h = absurd k
least_kept edition links bits (node ∷ nodes) (plan ∷ plans) k h = omega (arith, k.0.of_edition, h)

most_kept : (edition : ℕ) (links : List LinkLine) (bits : List BitRec) (nodes : List GivenNode) (plans : List NodePlan) → PlansOf edition links bits nodes plans → edition ≤ 2 → edition_of plans ≤ 2
most_kept edition links bits [] [] k h = omega arith
most_kept edition links bits [] (plan ∷ plans) k h = absurd k
most_kept edition links bits (node ∷ nodes) [] k h = absurd k
most_kept edition links bits (node ∷ nodes) (plan ∷ plans) k h = omega (arith, k.0.of_edition, h)

-- and all have it
editions_kept : (edition : ℕ) (links : List LinkLine) (bits : List BitRec) (nodes : List GivenNode) (plans : List NodePlan) → PlansOf edition links bits nodes plans →
    AllByRecursion (λ (plan : NodePlan). plan.edition ≡ edition_of plans) plans
editions_kept edition links bits [] [] k = tt
editions_kept edition links bits [] (plan ∷ plans) k = absurd k
editions_kept edition links bits (node ∷ nodes) [] k = absurd k
editions_kept edition links bits (node ∷ nodes) (plan ∷ plans) k =
    each_kept (λ (other : NodePlan). other.edition ≡ plan.edition) edition links bits (λ n p of. of.of_edition ∙ sym k.0.of_edition) (node ∷ nodes) (plan ∷ plans) k

-- where the ways of each node lead out, those of its plan do
ways_kept : (plan : PlanRec) (edition : ℕ) (links : List LinkLine) (bits : List BitRec) (place : ℕ → ℕ) → ((number : ℕ) → WaysLead plan (place number) (ways_of bits number)) →
    (n : ℕ) (nodes : List GivenNode) (plans : List NodePlan) → PlansOf edition links bits nodes plans → Stand place n nodes → AllWaysLead plan n plans
ways_kept plan edition links bits place lead n [] [] k s = tt
ways_kept plan edition links bits place lead n [] (p ∷ plans) k s = absurd k
ways_kept plan edition links bits place lead n (node ∷ nodes) [] k s = absurd k
ways_kept plan edition links bits place lead n (node ∷ nodes) (p ∷ plans) k s = (
  subst (WaysLead plan n) (sym k.0.ways) (subst (λ i. WaysLead plan i (ways_of bits node.number)) s.0 (lead node.number)),
  ways_kept plan edition links bits place lead (n + 1) nodes plans k.1 s.1,
)

-- A link end of a node has the network by the node's number that it has by its place.

net_same : (nodes : List GivenNode) (number end : ℕ) (links : List LinkLine) → has_node nodes number ≡ true → AllByRecursion (IsLinkOf nodes) links →
    net_of_end links (record { node = number; end = end }) ≡ net_at (map (link_plan nodes) links) (position_by_number nodes number) end
net_same nodes number end [] h k = refl
net_same nodes number end (link ∷ links) h k =
    rw (same_test nodes link.a.node number k.0.a h, same_test nodes link.b.node number k.0.b h, net_same nodes number end links h k.1) refl

each_same : (f g : ℕ → ℕ) → ((n : ℕ) → f n ≡ g n) → (ns : List ℕ) → map f ns ≡ map g ns
each_same f g h [] = refl
each_same f g h (n ∷ ns) = rw (h n, each_same f g h ns) refl

nets_same : (nodes : List GivenNode) (number : ℕ) (links : List LinkLine) → has_node nodes number ≡ true → AllByRecursion (IsLinkOf nodes) links →
    nets_of links number ≡ nets_at (map (link_plan nodes) links) (position_by_number nodes number)
nets_same nodes number links h k =
    each_same (λ end. net_of_end links (record { node = number; end = end })) (net_at (map (link_plan nodes) links) (position_by_number nodes number))
    (λ end. net_same nodes number end links h k) link_ends

-- these nodes are given
abbrev AreGiven : List GivenNode → List GivenNode → Type 0
AreGiven all nodes = AllByRecursion (λ (node : GivenNode). has_node all node.number ≡ true) nodes

one_given : (m n : ℕ) (rest : Bool) → rest ≡ true → ((m == n) || rest) ≡ true
one_given m n rest e = grind (arith, nat_tests)

given_still : (m : GivenNode) (all nodes : List GivenNode) → AreGiven all nodes → AreGiven (m ∷ all) nodes
given_still m all [] h = tt
given_still m all (node ∷ nodes) h = (one_given m.number node.number (has_node all node.number) h.0, given_still m all nodes h.1)

first_given : (n : ℕ) (rest : Bool) → ((n == n) || rest) ≡ true
first_given n rest = grind (arith, nat_tests)

all_given : (nodes : List GivenNode) → AreGiven nodes nodes
all_given [] = tt
all_given (node ∷ nodes) = (first_given node.number (has_node nodes node.number), given_still node nodes nodes (all_given nodes))

-- the plan of each node knows the networks of the links at its place
nets_kept : (all : List GivenNode) (edition : ℕ) (links : List LinkLine) (bits : List BitRec) → AllByRecursion (IsLinkOf all) links →
    (n : ℕ) (nodes : List GivenNode) (plans : List NodePlan) → PlansOf edition links bits nodes plans → Stand (position_by_number all) n nodes → AreGiven all nodes →
    AllKnowNets (map (link_plan all) links) n plans
nets_kept all edition links bits joined n [] [] k s h = tt
nets_kept all edition links bits joined n [] (p ∷ plans) k s h = absurd k
nets_kept all edition links bits joined n (node ∷ nodes) [] k s h = absurd k
nets_kept all edition links bits joined n (node ∷ nodes) (p ∷ plans) k s h = (
  k.0.nets ∙ (nets_same all node.number links h.0 joined ∙ ap (nets_at (map (link_plan all) links)) s.0),
  nets_kept all edition links bits joined (n + 1) nodes plans k.1 s.1 h.1,
)

-- What the links keep

link_kept : (nodes : List GivenNode) (count : ℕ) (link : LinkLine) → length nodes ≡ count → IsLinkOf nodes link → IsLink count (link_plan nodes link)
link_kept nodes count link n k = record {
  a = omega (arith, within nodes link.a.node k.a, n);
  b = omega (arith, within nodes link.b.node k.b, n);
  apart = λ same. k.apart (same_number nodes link.a.node link.b.node k.a k.b same);
  a_end = omega (arith, k.a_end);
  b_end = omega (arith, k.b_end);
  least_delay = k.least_delay;
  most_delay = k.most_delay;
  least_gap = k.least_gap;
  most_gap = k.most_gap;
  most_net = k.most_net;
}

links_kept : (nodes : List GivenNode) (count : ℕ) (links : List LinkLine) → length nodes ≡ count → AllByRecursion (IsLinkOf nodes) links →
    AllByRecursion (IsLink count) (map (link_plan nodes) links)
links_kept nodes count [] n k = tt
links_kept nodes count (link ∷ links) n k = (link_kept nodes count link n k.0, links_kept nodes count links n k.1)

-- in edition 1 each is of network 0; without nodes there is none
no_links : (links : List LinkLine) → AllByRecursion (IsLinkOf []) links → AllByRecursion (λ (link : LinkPlan). link.net ≡ 0) (map (link_plan []) links)
no_links [] k = tt
no_links (link ∷ links) k = let a = k.0.a in absurd cc

all_of_0 : (nodes : List GivenNode) (links : List LinkLine) → AllByRecursion (λ (link : LinkLine). link.net ≡ 0) links →
    AllByRecursion (λ (link : LinkPlan). link.net ≡ 0) (map (link_plan nodes) links)
all_of_0 nodes [] h = tt
all_of_0 nodes (link ∷ links) h = (h.0, all_of_0 nodes links h.1)

one_network_kept : (edition : ℕ) (links : List LinkLine) (bits : List BitRec) (nodes : List GivenNode) (plans : List NodePlan) → PlansOf edition links bits nodes plans →
    AllByRecursion (IsLinkOf nodes) links → AreOfOneNetwork edition links → edition_of plans ≡ 1 → AllByRecursion (λ (link : LinkPlan). link.net ≡ 0) (map (link_plan nodes) links)
one_network_kept edition links bits [] [] k joined h e = no_links links joined
one_network_kept edition links bits [] (plan ∷ plans) k joined h e = absurd k
one_network_kept edition links bits (node ∷ nodes) [] k joined h e = absurd k
one_network_kept edition links bits (node ∷ nodes) (plan ∷ plans) k joined h e = all_of_0 (node ∷ nodes) links (h (sym k.0.of_edition ∙ e))

as_many_links : (nodes : List GivenNode) (links : List LinkLine) → length (map (link_plan nodes) links) ≡ length links
as_many_links nodes [] = refl
as_many_links nodes (link ∷ links) = ap suc (as_many_links nodes links)

-- Things that a function keeps apart stay distinct.
module _ {X Y : Type 0} (f : X → Y) (P : X → Type 0) (one : (x y : X) → P x → P y → f x ≡ f y → x ≡ y) where
  still_apart : (x : X) (xs : List X) → P x → AllByRecursion P xs → AllByRecursion (λ y. x ≢ y) xs → AllByRecursion (λ y. f x ≢ y) (map f xs)
  still_apart x [] p ps h = tt
  still_apart x (y ∷ xs) p ps h = (λ e. h.0 (one x y p ps.0 e), still_apart x xs p ps.1 h.1)

  still_distinct : (xs : List X) → AllByRecursion P xs → AreDistinct xs → AreDistinct (map f xs)
  still_distinct [] ps h = tt
  still_distinct (x ∷ xs) ps h = (still_apart x xs ps.0 ps.1 h.0, still_distinct xs ps.1 h.1)

abbrev place : List GivenNode → EndName → ℕ × ℕ
place nodes name = (position_by_number nodes name.node, name.end)

abbrev IsKnown : List GivenNode → EndName → Type 0
IsKnown nodes name = has_node nodes name.node ≡ true

abbrev named : ℕ → ℕ → EndName
named node end = record { node = node; end = end }

same_name : (x y : EndName) → x.node ≡ y.node → x.end ≡ y.end → x ≡ y
same_name x y e f = ap (λ n. named n x.end) e ∙ ap (named y.node) f

same_place : (nodes : List GivenNode) (x y : EndName) → IsKnown nodes x → IsKnown nodes y → place nodes x ≡ place nodes y → x ≡ y
same_place nodes x y k l e =
    same_name x y (same_number nodes x.node y.node k l (ap (λ (p : ℕ × ℕ). p.0) e)) (ap (λ (p : ℕ × ℕ). p.1) e)

all_known : (nodes : List GivenNode) (links : List LinkLine) → AllByRecursion (IsLinkOf nodes) links → AllByRecursion (IsKnown nodes) (ends_of links)
all_known nodes [] k = tt
all_known nodes (link ∷ links) k = (k.0.a, (k.0.b, all_known nodes links k.1))

places_are : (nodes : List GivenNode) (links : List LinkLine) → map (place nodes) (ends_of links) ≡ places_of (map (link_plan nodes) links)
places_are nodes [] = refl
places_are nodes (link ∷ links) = ap (λ ps. place nodes link.a ∷ (place nodes link.b ∷ ps)) (places_are nodes links)

places_kept : (nodes : List GivenNode) (links : List LinkLine) → AllByRecursion (IsLinkOf nodes) links → AreDistinct (ends_of links) →
    AreDistinct (places_of (map (link_plan nodes) links))
places_kept nodes links k h =
    subst (λ ps. AreDistinct ps) (places_are nodes links) (still_distinct (place nodes) (IsKnown nodes) (same_place nodes) (ends_of links) (all_known nodes links k) h)

-- What the wires keep

wire_kept : (nodes : List GivenNode) (count : ℕ) (wire : WireLine) → length nodes ≡ count → IsWireOf nodes wire → IsWire count (wire_plan nodes wire)
wire_kept nodes count wire n k = record {
  a = omega (arith, within nodes wire.a.node k.a, n);
  b = omega (arith, within nodes wire.b.node k.b, n);
  apart = λ same. k.apart (same_number nodes wire.a.node wire.b.node k.a k.b same);
  a_port = k.a_port;
  b_port = k.b_port;
  widths = k.widths;
  least_delay = k.least_delay;
  most_delay = k.most_delay;
}

wires_kept : (nodes : List GivenNode) (count : ℕ) (wires : List WireLine) → length nodes ≡ count → AllByRecursion (IsWireOf nodes) wires →
    AllByRecursion (IsWire count) (map (wire_plan nodes) wires)
wires_kept nodes count [] n k = tt
wires_kept nodes count (wire ∷ wires) n k = (wire_kept nodes count wire n k.0, wires_kept nodes count wires n k.1)

as_many_wires : (nodes : List GivenNode) (wires : List WireLine) → length (map (wire_plan nodes) wires) ≡ length wires
as_many_wires nodes [] = refl
as_many_wires nodes (wire ∷ wires) = ap suc (as_many_wires nodes wires)

-- in edition 1 there are none; nor are there without nodes
none_without_nodes : (wires : List WireLine) → AllByRecursion (IsWireOf []) wires → map (wire_plan []) wires ≡ []
none_without_nodes [] k = refl
none_without_nodes (wire ∷ wires) k = let a = k.0.a in absurd cc

no_wires_kept : (edition : ℕ) (links : List LinkLine) (wires : List WireLine) (bits : List BitRec) (nodes : List GivenNode) (plans : List NodePlan) → PlansOf edition links bits nodes plans →
    AllByRecursion (IsWireOf nodes) wires → (edition ≡ 1 → wires ≡ []) → edition_of plans ≡ 1 → map (wire_plan nodes) wires ≡ []
no_wires_kept edition links wires bits [] [] k joined h e = none_without_nodes wires joined
no_wires_kept edition links wires bits [] (plan ∷ plans) k joined h e = absurd k
no_wires_kept edition links wires bits (node ∷ nodes) [] k joined h e = absurd k
no_wires_kept edition links wires bits (node ∷ nodes) (plan ∷ plans) k joined h e = ap (map (wire_plan (node ∷ nodes))) (h (sym k.0.of_edition ∙ e))

abbrev pin_place : List GivenNode → PinName → ℕ × ℕ
pin_place nodes pin = (position_by_number nodes pin.node, pin.port)

abbrev IsKnownPin : List GivenNode → PinName → Type 0
IsKnownPin nodes pin = has_node nodes pin.node ≡ true

abbrev pin_named : ℕ → ℕ → PinName
pin_named node port = record { node = node; port = port }

same_pin : (x y : PinName) → x.node ≡ y.node → x.port ≡ y.port → x ≡ y
same_pin x y e f = ap (λ n. pin_named n x.port) e ∙ ap (pin_named y.node) f

same_pin_place : (nodes : List GivenNode) (x y : PinName) → IsKnownPin nodes x → IsKnownPin nodes y → pin_place nodes x ≡ pin_place nodes y → x ≡ y
same_pin_place nodes x y k l e =
    same_pin x y (same_number nodes x.node y.node k l (ap (λ (p : ℕ × ℕ). p.0) e)) (ap (λ (p : ℕ × ℕ). p.1) e)

abbrev targets : List WireLine → List PinName
targets wires = map (λ (wire : WireLine). wire.b) wires

targets_known : (nodes : List GivenNode) (wires : List WireLine) → AllByRecursion (IsWireOf nodes) wires → AllByRecursion (IsKnownPin nodes) (targets wires)
targets_known nodes [] k = tt
targets_known nodes (wire ∷ wires) k = (k.0.b, targets_known nodes wires k.1)

targets_are : (nodes : List GivenNode) (wires : List WireLine) → map (pin_place nodes) (targets wires) ≡ targets_of (map (wire_plan nodes) wires)
targets_are nodes [] = refl
targets_are nodes (wire ∷ wires) = ap (λ ps. pin_place nodes wire.b ∷ ps) (targets_are nodes wires)

targets_kept : (nodes : List GivenNode) (wires : List WireLine) → AllByRecursion (IsWireOf nodes) wires → AreDistinct (targets wires) → AreDistinct (targets_of (map (wire_plan nodes) wires))
targets_kept nodes wires k h =
    subst (λ ps. AreDistinct ps) (targets_are nodes wires) (still_distinct (pin_place nodes) (IsKnownPin nodes) (same_pin_place nodes) (targets wires) (targets_known nodes wires k) h)

-- What the steps keep

both : (a b : Bool) → (a && b) ≡ true → (a ≡ true) × (b ≡ true)
both true b e = (refl, e)
both false b e = cc

either : (a b : Bool) (A : Type 0) → (a || b) ≡ true → (a ≡ true → A) → (b ≡ true → A) → A
either true b A e f g = f refl
either false b A e f g = g e

module _ (plan : PlanRec) (nodes : List GivenNode) (links : List LinkLine) (wires : List WireLine) (many : length nodes ≡ length plan.nodes) (is : plan.links ≡ map (link_plan nodes) links)
    (wired : plan.wires ≡ map (wire_plan nodes) wires) (of : AllByRecursion (IsWireOf nodes) wires) where
  stands_at : (number : ℕ) → has_node nodes number ≡ true → position_by_number nodes number < length plan.nodes
  stands_at number e = omega (arith, within nodes number e, many)

  end_comes : (name : EndName) → has_node nodes name.node ≡ true → has_end_in links wires name ≡ true → IsSome (incoming plan (position_by_number nodes name.node) name.end)
  end_comes name known e =
      let place = position_by_number nodes name.node in
      let test = comes_to place name.end in
      let first = link_arcs (map (link_plan nodes) links) in
      let second = wire_arcs [] (map (wire_plan nodes) wires) in
      rw (is, wired)
      (either (has_link_end links name) (is_wire_end (count_coming wires name.node) name.end) (IsSome (first_arc test 0 (first ++ second))) e
      (λ h. in_first test first second 0 (comes nodes name.node name.end links 0 h))
      (λ h. in_second test first second 0 (λ m. wire_comes nodes name.node known wires name.end m of h)))

  end_leaves : (name : EndName) → has_node nodes name.node ≡ true → has_end_out links wires name ≡ true → IsSome (outgoing plan (position_by_number nodes name.node) name.end)
  end_leaves name known e =
      let place = position_by_number nodes name.node in
      let test = leaves_by place name.end in
      let first = link_arcs (map (link_plan nodes) links) in
      let second = wire_arcs [] (map (wire_plan nodes) wires) in
      rw (is, wired)
      (either (has_link_end links name) (is_wire_end (count_leaving wires name.node) name.end) (IsSome (first_arc test 0 (first ++ second))) e
      (λ h. in_first test first second 0 (leaves nodes name.node name.end links 0 h))
      (λ h. in_second test first second 0 (λ m. wire_leaves nodes name.node known wires name.end m of h)))

  step_kept : (line : PlayLine) → is_step_of nodes links wires line ≡ true → NamesWhatIsThere plan (step_plan nodes line)
  step_kept (Take name) e =
      let there = both (has_node nodes name.node) (has_end_in links wires name) e in
      (stands_at name.node there.0, end_comes name there.0 there.1)
  step_kept (Run node count) e = stands_at node e
  step_kept (Send name) e =
      let there = both (has_node nodes name.node) (has_end_out links wires name) e in
      (stands_at name.node there.0, end_leaves name there.0 there.1)

  steps_kept : (lines : List PlayLine) → AllByRecursion (λ (line : PlayLine). is_step_of nodes links wires line ≡ true) lines →
      AllByRecursion (NamesWhatIsThere plan) (map (step_plan nodes) lines)
  steps_kept [] k = tt
  steps_kept (line ∷ lines) k = (step_kept line k.0, steps_kept lines k.1)

-- The whole plan

-- a script that the reader made of the nodes' numbers
pub record IsScriptOf (nodes : List GivenNode) (script : List PinLine) : Type 0 where
  pub lines : IsScript script
  pub named : IsOfNodes (map (λ (node : GivenNode). node.number) nodes) script

kept_plan : (edition : ℕ) (nodes : List GivenNode) (links : List LinkLine) (bits : List BitRec) (wires : List WireLine) (lines : List PlayLine) (plans : List NodePlan) (script : List PinLine) →
    1 ≤ edition → edition ≤ 2 → AreAccepted nodes links bits wires lines → IsOfEdition edition links wires → PlansOf edition links bits nodes plans → IsScriptOf nodes script →
    IsPlan (record { nodes = plans; links = map (link_plan nodes) links; script = script; steps = map (step_plan nodes) lines; wires = map (wire_plan nodes) wires })
kept_plan edition nodes links bits wires lines plans script least most k asked p s = record {
  few_nodes = omega (arith, k.few_nodes, as_many edition links bits nodes plans p);
  few_links = omega (arith, k.few_links, as_many_links nodes links);
  numbers = numbers_kept edition links bits nodes plans p k.numbers;
  order = subst AreAscending (same_numbers edition links bits nodes plans p) k.order;
  least_edition = least_kept edition links bits nodes plans p least;
  most_edition = most_kept edition links bits nodes plans p most;
  editions = editions_kept edition links bits nodes plans p;
  nets = nets_kept nodes edition links bits k.links 0 nodes plans p (stand nodes k.order) (all_given nodes);
  one_network = one_network_kept edition links bits nodes plans p k.links asked.one_network;
  ids = subst (λ ids. AreDistinct ids) (same_ids edition links bits nodes plans p) k.ids;
  links = links_kept nodes (length plans) links (as_many edition links bits nodes plans p) k.links;
  places = places_kept nodes links k.links k.ends;
  script = s.lines;
  script_nodes = subst (λ numbers. IsOfNodes numbers script) (same_numbers edition links bits nodes plans p) s.named;
  ways = ways_kept made edition links bits (position_by_number nodes) (ways_lead made nodes links bits refl k.bits) 0 nodes plans p (stand nodes k.order);
  steps = steps_kept made nodes links wires (as_many edition links bits nodes plans p) refl refl k.wires lines k.steps;
  few_wires = omega (arith, k.few_wires, as_many_wires nodes wires);
  no_wires = no_wires_kept edition links wires bits nodes plans p k.wires asked.no_wires;
  wires = wires_kept nodes (length plans) wires (as_many edition links bits nodes plans p) k.wires;
  targets = targets_kept nodes wires k.wires k.targets;
}
  where
    made : PlanRec
    made = record { nodes = plans; links = map (link_plan nodes) links; script = script; steps = map (step_plan nodes) lines; wires = map (wire_plan nodes) wires }

-- the plans of the nodes, the links, the wires and the steps of a frame that is accepted, and its script
module _ (given : Given) (nodes : List GivenNode) (links : List LinkLine) (wires : List WireLine) (lines : List PlayLine) (plans : List NodePlan) (joined : List LinkPlan) (wired : List WirePlan)
    (script : List PinLine) (steps : List Step) where
  pub frame_plan : IsAccepted given → nodes ≡ given.nodes → links ≡ given.links → wires ≡ given.wires → lines ≡ given.steps →
      node_plans (edition_given given.edition) given.links given.bits given.sections given.nodes ≡ Ok plans → joined ≡ map (link_plan nodes) links → wired ≡ map (wire_plan nodes) wires →
      steps ≡ map (step_plan nodes) lines → IsScriptOf given.nodes script → IsPlan (record { nodes = plans; links = joined; script = script; steps = steps; wires = wired })
  frame_plan k n l w p e j v t s =
      let edition = edition_given given.edition in
      let same : map (link_plan given.nodes) given.links ≡ joined = sym (j ∙ (ap (λ ns. map (link_plan ns) links) n ∙ ap (map (link_plan given.nodes)) l)) in
      let as_wired : map (wire_plan given.nodes) given.wires ≡ wired = sym (v ∙ (ap (λ ns. map (wire_plan ns) wires) n ∙ ap (map (wire_plan given.nodes)) w)) in
      let as_steps : map (step_plan given.nodes) given.steps ≡ steps = sym (t ∙ (ap (λ ns. map (step_plan ns) lines) n ∙ ap (map (step_plan given.nodes)) p)) in
      let planned_by : List LinkPlan → List WirePlan → List Step → Type 0 = λ ls ws ss. IsPlan (record { nodes = plans; links = ls; script = script; steps = ss; wires = ws }) in
      subst (planned_by joined wired) as_steps (subst (λ ws. planned_by joined ws (map (step_plan given.nodes) given.steps)) as_wired
      (subst (λ ls. planned_by ls (map (wire_plan given.nodes) given.wires) (map (step_plan given.nodes) given.steps)) same
      (kept_plan edition given.nodes given.links given.bits given.wires given.steps plans script k.edition.least k.edition.most k.lines k.of_edition
      (plans_of edition given.links given.bits given.sections given.nodes plans e) s)))

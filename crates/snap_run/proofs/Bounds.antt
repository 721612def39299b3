-- What a snapshot counts is below 2^63.
use Rattle.std.proofs.Common.{◌≡◌, ◌<◌, ◌^◌, ℕ, Some, None, List, [], ◌∷◌, ◌++◌, length, sym, subst}
use Rattle.std.specs.List.{AllByRecursion}
use Rattle.std.proofs.lemmas.Bool.{ltb-true}
use Rattle.xs_base.specs.Ids.{port_width}
use Rattle.xs_base.specs.Numbers.{Slot, Position}
use Rattle.sys_plan.specs.declared.LinkPlan.{LinkPlan}
use Rattle.sys_plan.specs.Plan.{PlanRec}
use Rattle.snap_parts.specs.declared.node.SnapNode.{SnapNode}
use Rattle.snap_parts.specs.Parts.{LogRec, BodyRec}
use Rattle.byte_forms.specs.Forms.{HoldInChain}
use Rattle.log_forms.proofs.LinkFacts.{link_facts}
use Rattle.log_forms.proofs.WireFacts.{wire_facts}
use Rattle.node_forms.specs.Nodes.{snap_node}
use Rattle.snap_codec.specs.Body.{there_of, node_after, ends_of, link_pair, link_at, wire_at, pair_after, wire_after, by_number, in_pairs, links, wires, body}
use Rattle.snap_codec.proofs.Bodies.{AreParts, parts_of}

-- ---- Nodes

abbrev pub FewMore : SnapNode → Type 0
FewMore node = node.more < 2 ^ 63

node_few : (plan : PlanRec) (slot : Slot) (n : Position) (node : SnapNode) → (snap_node (there_of plan n) slot).Holds node → FewMore node
unfolding snap_node
node_few plan slot n node holds = ltb-true node.more (2 ^ 63) holds.1.0.1

nodes_few : (plan : PlanRec) (slot : Slot) (before nodes : List SnapNode) → HoldInChain (node_after plan slot) before nodes → AllByRecursion FewMore nodes
unfolding HoldInChain
nodes_few plan slot before [] holds = tt
nodes_few plan slot before (node ∷ nodes) holds = (node_few plan slot (length before) node holds.0, nodes_few plan slot (before ++ node ∷ []) nodes holds.1)

-- ---- Directed links and wires

pub record FewSent (log : LogRec) : Type 0 where
  pub tokens : log.tokens < 2 ^ 63
  pub credits : log.credits < 2 ^ 63

record FewInPair (p : LogRec × LogRec) : Type 0 where
  forth : FewSent p.0
  back : FewSent p.1

pair_few : (slot : Slot) (all : List SnapNode) (link : LinkPlan) (p : LogRec × LogRec) → (link_pair slot all link).Holds p → FewInPair p
unfolding link_pair
pair_few slot all link p holds =
    let f = link_facts slot link.delay None p.0 holds.0 in
    let b = link_facts slot link.delay (Some (ends_of all link p.0)) p.1 holds.1 in
    record { forth = record { tokens = f.tokens; credits = f.credits }; back = record { tokens = b.tokens; credits = b.credits } }

module _ (plan : PlanRec) (slot : Slot) where
  pairs_few : (all : List SnapNode) (before ps : List (LogRec × LogRec)) → HoldInChain (pair_after plan slot all) before ps → AllByRecursion FewSent (by_number ps)
  unfolding HoldInChain
  pairs_few all before [] holds = tt
  pairs_few all before (p ∷ ps) holds =
      let few = pair_few slot all (link_at plan.links (length before)) p holds.0 in
      (few.forth, (few.back, pairs_few all (before ++ p ∷ []) ps holds.1))

  links_few : (all : List SnapNode) (logs : List LogRec) → (links plan slot all).Holds logs → AllByRecursion FewSent logs
  links_few all logs holds = subst (AllByRecursion FewSent) holds.1 (pairs_few all [] (in_pairs logs) holds.0.1)

  wires_few : (before logs : List LogRec) → HoldInChain (wire_after plan slot) before logs → AllByRecursion FewSent logs
  unfolding HoldInChain
  wires_few before [] holds = tt
  wires_few before (log ∷ logs) holds =
      let wire = wire_at plan.wires (length before) in
      let w = wire_facts slot wire.delay (port_width wire.b_port) log holds.0 in
      (record { tokens = w.tokens; credits = w.credits }, wires_few (before ++ log ∷ []) logs holds.1)

few_both : (ls ws : List LogRec) → AllByRecursion FewSent ls → AllByRecursion FewSent ws → AllByRecursion FewSent (ls ++ ws)
few_both [] ws h k = k
few_both (l ∷ ls) ws h k = (h.0, few_both ls ws h.1 k)

-- ---- All

pub record IsFew (b : BodyRec) : Type 0 where
  pub nodes : AllByRecursion FewMore b.nodes
  pub logs : AllByRecursion FewSent b.logs

pub body_few : (plan : PlanRec) (b : BodyRec) → (body plan).Holds b → IsFew b
body_few plan b holds =
    let p = parts_of plan b holds in
    record {
      nodes = nodes_few plan b.slot [] b.nodes p.nodes.1;
      logs =
          subst (AllByRecursion FewSent) (sym p.logs)
          (few_both p.directed p.rest (links_few plan b.slot b.nodes p.directed p.links) (wires_few plan b.slot [] p.rest p.wires.1));
    }

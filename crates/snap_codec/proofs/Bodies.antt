-- The form of what a snapshot keeps beside its text is lawful, and the parts of what has it.
use Rattle.std.proofs.Common.{◌≡◌, List, ℕ, ◌++◌, length, take, drop, sym, ap, arith}
use Rattle.std.specs.Prelude.{Some, None}
use Rattle.std.proofs.lemmas.List.{take_at, drop_at}
use Rattle.xs_base.specs.Ids.{port_width}
use Rattle.xs_base.specs.Numbers.{Slot}
use Rattle.sys_plan.specs.declared.LinkPlan.{LinkPlan}
use Rattle.sys_plan.specs.Plan.{PlanRec}
use Rattle.snap_parts.specs.declared.node.SnapNode.{SnapNode}
use Rattle.snap_parts.specs.Parts.{LogRec, BodyRec}
use Rattle.byte_forms.specs.Forms.{word}
use Rattle.byte_forms.specs.Laws.{Lawful}
use Rattle.byte_forms.proofs.Fields.{word-lawful}
use Rattle.byte_forms.proofs.Parts.{both-lawful, told-lawful}
use Rattle.byte_forms.proofs.Lists.{chain-lawful}
use Rattle.log_forms.proofs.Laws.{link_log-lawful, wire_log-lawful}
use Rattle.node_forms.proofs.Lawfulness.{snap_node-lawful}
use Rattle.snap_codec.specs.Body.{there_of, nodes, ends_of, link_pair, link_at, wire_at, by_number, in_pairs, links, wires, BodyFields, body_of_fields, fields_of_body, directed_of, body}
use Rattle.snap_codec.proofs.Pairs.{pairs_again, by_number_length}

nodes-lawful : (plan : PlanRec) (slot : Slot) → Lawful (nodes plan slot)
nodes-lawful plan slot = chain-lawful (λ before. snap_node-lawful (there_of plan (length before)) slot) (length plan.nodes)

link_pair-lawful : (slot : Slot) (all : List SnapNode) (link : LinkPlan) → Lawful (link_pair slot all link)
unfolding link_pair
link_pair-lawful slot all link = both-lawful (link_log-lawful slot link.delay None) (λ forth. link_log-lawful slot link.delay (Some (ends_of all link forth)))

links-lawful : (plan : PlanRec) (slot : Slot) (all : List SnapNode) → Lawful (links plan slot all)
links-lawful plan slot all =
    told-lawful by_number in_pairs (chain-lawful (λ before. link_pair-lawful slot all (link_at plan.links (length before))) (length plan.links)) (λ ps h. pairs_again ps)

wires-lawful : (plan : PlanRec) (slot : Slot) → Lawful (wires plan slot)
wires-lawful plan slot =
    chain-lawful (λ before. let wire = wire_at plan.wires (length before) in wire_log-lawful slot wire.delay (port_width wire.b_port)) (length plan.wires)

-- two directed links for each link
pub links_many : (plan : PlanRec) (slot : Slot) (all : List SnapNode) (ls : List LogRec) → (links plan slot all).Holds ls → length ls ≡ directed_of plan
links_many plan slot all ls h = omega (arith, ap length (sym h.1), by_number_length (in_pairs ls), h.0.0)

fields_back : (directed : ℕ) (f : BodyFields) → length f.1.1.0 ≡ directed → fields_of_body directed (body_of_fields f) ≡ f
fields_back directed f many = λ i. (f.0, (f.1.0, (take_at f.1.1.0 f.1.1.1 directed many i, drop_at f.1.1.0 f.1.1.1 directed many i)))

pub body-lawful : (plan : PlanRec) → Lawful (body plan)
unfolding body
body-lawful plan =
    told-lawful body_of_fields (fields_of_body (directed_of plan))
    (both-lawful word-lawful (λ slot. both-lawful (nodes-lawful plan slot) (λ all. both-lawful (links-lawful plan slot all) (λ directed. wires-lawful plan slot))))
    (λ f h. fields_back (directed_of plan) f (links_many plan f.0 f.1.0 f.1.1.0 h.1.1.0))

-- what has the form, part by part
pub record AreParts (plan : PlanRec) (b : BodyRec) : Type 0 where
  pub directed : List LogRec
  pub rest : List LogRec
  pub logs : b.logs ≡ directed ++ rest
  pub slot : word.Holds b.slot
  pub nodes : (nodes plan b.slot).Holds b.nodes
  pub links : (links plan b.slot b.nodes).Holds directed
  pub wires : (wires plan b.slot).Holds rest

pub parts_of : (plan : PlanRec) (b : BodyRec) → (body plan).Holds b → AreParts plan b
unfolding body
parts_of plan b h =
    let directed = directed_of plan in
    record {
      directed = take directed b.logs;
      rest = drop directed b.logs;
      logs = ap (λ (c : BodyRec). c.logs) (sym h.1);
      slot = h.0.0;
      nodes = h.0.1.0;
      links = h.0.1.1.0;
      wires = h.0.1.1.1;
    }

-- How many bytes snapshots have.
use Rattle.std.proofs.Common.{◌≡◌, ltb, inl, inr, ℕ, zero, suc, ◌+◌, ◌*◌, ◌≤◌, List, [], ◌∷◌, ◌++◌, length, take, drop, get_or, sym, ap, ◌∙◌, arith}
use Rattle.std.specs.List.{sum_by, AllByRecursion}
use Rattle.std.proofs.lemmas.Bool.{cases_Bool, ltb-false}
use Rattle.std.proofs.lemmas.List.{length-append}
use Rattle.std.proofs.lemmas.List.Sums.{sum_by-append}
use Rattle.xs_base.specs.Numbers.{Slot}
use Rattle.xs_base.specs.Ids.{port_width}
use Rattle.sys_plan.specs.declared.WirePlan.{WirePlan}
use Rattle.sys_plan.specs.Plan.{PlanRec, IsWire, IsPlan}
use Rattle.system_model.specs.System as stands
use Rattle.system_model.specs.System.{longest_input, system_of}
use Rattle.snap_parts.specs.declared.node.SnapNode.{SnapNode}
use Rattle.snap_parts.specs.Parts.{LogRec, BodyRec}
use Rattle.snap_codec.specs.Body.{there_of, node_after, nodes, link_at, wire_at, pair_after, wire_after, in_pairs, links, wires, directed_of, body}
use Rattle.snap_codec.specs.Snaps.{SnapRec, line, text_field, head, longest_snapshot, snap_bytes, IsSnap}
use Rattle.snap_sizes.specs.Sizes.{tokens_of_node, tokens_of, entries_of_log, entries_of, blocks_of, snap_size, most_bytes}
use Rattle.snap_sizes.proofs.Chains.{chain_linear, chain_most}
use Rattle.snap_sizes.proofs.Nodes.{node_size, node_most}
use Rattle.snap_sizes.proofs.Logs.{wire_size, entries_of_pair, pair_size, pairs_summed, pair_most, wire_most}

-- ---- All nodes

module _ (plan : PlanRec) (slot : Slot) (ns : List SnapNode) (h : (nodes plan slot).Holds ns) where
  nodes_size : length ((nodes plan slot).write ns) ≡ 69303 * length plan.nodes + 2 * sum_by tokens_of_node ns
  nodes_size = chain_linear (node_after plan slot) (length plan.nodes) 69303 2 tokens_of_node (λ before n k. node_size (there_of plan (length before)) slot n k) ns h

  nodes_most : sum_by tokens_of_node ns ≤ 576 * length plan.nodes
  nodes_most =
      let most = chain_most (node_after plan slot) 576 tokens_of_node (λ before n k. node_most (there_of plan (length before)) slot n k) [] ns h.1 in
      omega (arith, most, h.0)

-- ---- All links

module _ (plan : PlanRec) (slot : Slot) (all : List SnapNode) (ls : List LogRec) (h : (links plan slot all).Holds ls) where
  abbrev pairs : List (LogRec × LogRec)
  pairs = in_pairs ls

  in_all : sum_by entries_of_log ls ≡ sum_by entries_of_pair pairs
  in_all = ap (sum_by entries_of_log) (sym h.1) ∙ pairs_summed pairs

  links_size : length ((links plan slot all).write ls) ≡ 48 * length plan.links + 9 * sum_by entries_of_log ls
  links_size =
      let size = chain_linear (pair_after plan slot all) (length plan.links) 48 9 entries_of_pair (λ before p k. pair_size slot all (link_at plan.links (length before)) p k) pairs h.0 in
      omega (arith, size, in_all)

  links_most : sum_by entries_of_log ls ≤ 16 * length plan.links
  links_most =
      let most = chain_most (pair_after plan slot all) 16 entries_of_pair (λ before p k. pair_most slot all (link_at plan.links (length before)) p k) [] pairs h.0.1 in
      omega (arith, most, in_all, h.0.0)

-- ---- All wires

delays : (given : List WirePlan) (d : WirePlan) (count k : ℕ) → d.delay ≤ 1000 → AllByRecursion (IsWire count) given → (get_or given k d).delay ≤ 1000
delays [] d count k few h = few
delays (w ∷ given) d count zero few h = h.0.most_delay
delays (w ∷ given) d count (suc k) few h = delays given d count k few h.1

module _ (plan : PlanRec) (slot : Slot) (ws : List LogRec) (h : (wires plan slot).Holds ws) where
  wires_size : length ((wires plan slot).write ws) ≡ 24 * length plan.wires + 9 * sum_by entries_of_log ws
  wires_size =
      chain_linear (wire_after plan slot) (length plan.wires) 24 9 entries_of_log
      (λ before w k. let wire = wire_at plan.wires (length before) in wire_size slot wire.delay (port_width wire.b_port) w k) ws h

  wire_few : IsPlan plan → (before : List LogRec) (w : LogRec) → (wire_after plan slot before).Holds w → entries_of_log w ≤ 1000
  wire_few is before w k =
      let wire = wire_at plan.wires (length before) in
      let few : wire.delay ≤ 1000 = delays plan.wires (wire_at [] 0) (length plan.nodes) (length before) (omega arith) is.wires in
      omega (arith, wire_most slot wire.delay (port_width wire.b_port) w k)

  wires_most : IsPlan plan → sum_by entries_of_log ws ≤ 1000 * length plan.wires
  wires_most is =
      let most = chain_most (wire_after plan slot) 1000 entries_of_log (wire_few is) [] ws h.1 in
      omega (arith, most, h.0)

-- ---- All after the text

module _ (plan : PlanRec) (b : BodyRec) (h : (body plan).Holds b) where
  abbrev directed : List LogRec
  directed = take (directed_of plan) b.logs

  abbrev rest : List LogRec
  rest = drop (directed_of plan) b.logs

  in_both : (b.logs ≡ directed ++ rest) → entries_of b ≡ sum_by entries_of_log directed + sum_by entries_of_log rest
  in_both e = ap (sum_by entries_of_log) e ∙ sum_by-append entries_of_log directed rest

  body_size : length ((body plan).write b) ≡ 4 + 69303 * length plan.nodes + 2 * tokens_of b + 24 * blocks_of plan + 9 * entries_of b
  unfolding body
  body_size =
      let n = nodes_size plan b.slot b.nodes h.0.1.0 in
      let l = links_size plan b.slot b.nodes directed h.0.1.1.0 in
      let w = wires_size plan b.slot rest h.0.1.1.1 in
      let both = in_both (ap (λ (c : BodyRec). c.logs) (sym h.1)) in
      simp length-append (omega (arith, n, l, w, both))

  body_most : IsPlan plan → (tokens_of b ≤ 576 * length plan.nodes) × (entries_of b ≤ 16 * length plan.links + 1000 * length plan.wires)
  unfolding body
  body_most is =
      let l = links_most plan b.slot b.nodes directed h.0.1.1.0 in
      let w = wires_most plan b.slot rest h.0.1.1.1 is in
      let both = in_both (ap (λ (c : BodyRec). c.logs) (sym h.1)) in
      (nodes_most plan b.slot b.nodes h.0.1.0, omega (arith, l, w, both))

-- ---- Snapshots

head_size : (text : List ℕ) → length (head.write text) ≡ 19 + length text
unfolding head line text_field
head_size text = omega arith

-- a longer text has no plan
text_most : (text : List ℕ) (plan : PlanRec) → system_of text ≡ stands.Plan plan → length text ≤ longest_input
unfolding system_of
text_most text plan is =
    elim (cases_Bool (ltb longest_input (length text))) [
      | inl long ↦ let no = rw long at is in absurd cc
      | inr fits ↦ ltb-false longest_input (length text) fits
    ]

pub snap_has_size : (plan : PlanRec) (snap : SnapRec) → IsSnap plan snap → length (snap_bytes plan snap) ≡ snap_size plan snap
unfolding snap_bytes
snap_has_size plan snap is =
    omega (arith, length-append (head.write snap.text) ((body plan).write snap.body), head_size snap.text, body_size plan snap.body is.body)

pub snap_is_short : (plan : PlanRec) (snap : SnapRec) → IsPlan plan → IsSnap plan snap → length (snap_bytes plan snap) ≤ most_bytes
snap_is_short plan snap given is =
    let most = body_most plan snap.body is.body given in
    omega (arith, snap_has_size plan snap is, text_most snap.text plan is.system, most.0, most.1, given.few_nodes, given.few_links, given.few_wires)

pub snap_has_most : (plan : PlanRec) (snap : SnapRec) → IsPlan plan → IsSnap plan snap → length (snap_bytes plan snap) ≤ longest_snapshot
snap_has_most plan snap given is = omega (arith, snap_is_short plan snap given is)

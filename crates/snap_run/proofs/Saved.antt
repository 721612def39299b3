-- What a snapshot keeps of nodes and arcs, one by one.
use Rattle.std.proofs.Common.{◌≡◌, ℕ, zero, suc, ◌+◌, ◌-◌, ◌*◌, ◌<◌, ◌≤◌, ◌⊎◌, inl, inr, Bool, true, false, leb, ltb, Option, Some, None, List, [], ◌∷◌, ◌++◌, length, take, get_or, refl, sym, ap, ◌∙◌, arith}
use Rattle.std.proofs.lemmas.Bool.{cases_Bool, ltb-true, ltb-false, le-leb, lt-leb}
use Rattle.std.proofs.lemmas.List.{get_or-map, take_all}
use Rattle.xs_base.specs.Numbers.{Slot}
use Rattle.xs_base.specs.declared.entry.Entry.{Entry}
use Rattle.xs_model.specs.declared.event.Event.{Event}
use Rattle.xs_model.specs.Record.{NodeRec, first_node}
use Rattle.sys_plan.specs.declared.LinkPlan.{LinkPlan}
use Rattle.sys_plan.specs.declared.WirePlan.{WirePlan}
use Rattle.sys_plan.specs.Plan.{PlanRec, Arc, arcs, arc_count, link_arcs, wire_arcs, delay_of}
use Rattle.sys_plan.proofs.Arcs.{arcs_length}
use Rattle.sys_plan.proofs.Wires.{wires_length}
use Rattle.sys_plan.proofs.Told.{arcs-count}
use Rattle.run_plan.proofs.Ends.{front-at, back-at}
use Rattle.serial_model.specs.Serial.{serial}
use Rattle.locality_laws.specs.Locality.{node_in, events_in, history_in}
use Rattle.snap_parts.specs.declared.node.SnapNode.{SnapNode}
use Rattle.snap_parts.specs.Parts.{LogRec}
use Rattle.snap_model.specs.Saved.{saved_node, saved_nodes, saved_log, saved_logs}
use Rattle.snap_run.specs.Keeping.{is_wire}
use Rattle.snap_run.proofs.Lists.{zipped, zipped_more}
use Rattle.snap_run.proofs.Logs.{logs_zipped}
use Rattle.snap_run.proofs.Systems.{all_serial}

-- ---- Nodes

nodes_zipped : (recs : List NodeRec) (all : List (List Event)) → saved_nodes recs all ≡ zipped saved_node recs all
nodes_zipped [] all = refl
nodes_zipped (rec ∷ recs) [] = refl
nodes_zipped (rec ∷ recs) (events ∷ all) = ap (λ nodes. saved_node rec events ∷ nodes) (nodes_zipped recs all)

module _ (plan : PlanRec) (slot : Slot) where
  -- those of the first so many nodes
  abbrev pub nodes_upto : ℕ → List SnapNode
  nodes_upto n = saved_nodes (take n (serial plan slot).nodes) (take n (serial plan slot).events)

  pub nodes_more : (n : ℕ) → n < length plan.nodes → nodes_upto (n + 1) ≡ nodes_upto n ++ saved_node (node_in (serial plan slot) n) (events_in (serial plan slot) n) ∷ []
  nodes_more n inside =
      let system = serial plan slot in
      let has = all_serial plan slot in
      nodes_zipped (take (n + 1) system.nodes) (take (n + 1) system.events)
      ∙ zipped_more saved_node system.nodes system.events n (first_node 0 0 []) [] (omega (arith, has.nodes, inside)) (omega (arith, has.events, inside))
      ∙ ap (λ nodes. nodes ++ saved_node (node_in system n) (events_in system n) ∷ []) (sym (nodes_zipped (take n system.nodes) (take n system.events)))

  pub nodes_whole : (n : ℕ) → length plan.nodes ≤ n → nodes_upto n ≡ saved_nodes (serial plan slot).nodes (serial plan slot).events
  nodes_whole n all =
      let system = serial plan slot in
      let has = all_serial plan slot in
      let nodes = take_all n system.nodes (omega (arith, has.nodes, all)) in
      let events = take_all n system.events (omega (arith, has.events, all)) in
      λ i. saved_nodes (nodes i) (events i)

-- ---- Arcs

-- what stands where there is no arc
abbrev pub no_arc : Arc
no_arc = record { from = 0; from_end = 0; to = 0; to_end = 0; delay = 0; gap = 0; joins = None }

link_joins : (links : List LinkPlan) (k : ℕ) → k < length (link_arcs links) → is_wire (get_or (link_arcs links) k no_arc).joins ≡ false
link_joins [] k inside = absurd (omega (arith, inside))
link_joins (link ∷ links) zero inside = refl
link_joins (link ∷ links) (suc zero) inside = refl
link_joins (link ∷ links) (suc (suc k)) inside = link_joins links k (omega (arith, inside))

wire_joins : (earlier wires : List WirePlan) (k : ℕ) → k < length (wire_arcs earlier wires) → is_wire (get_or (wire_arcs earlier wires) k no_arc).joins ≡ true
wire_joins earlier [] k inside = absurd (omega (arith, inside))
wire_joins earlier (wire ∷ wires) zero inside = refl
wire_joins earlier (wire ∷ wires) (suc k) inside = wire_joins (wire ∷ earlier) wires k (omega (arith, inside))

module _ (plan : PlanRec) where
  -- the arc with a number
  abbrev pub arc_at : ℕ → Arc
  arc_at k = get_or (arcs plan) k no_arc

  pub delay_is : (k : ℕ) → k < arc_count plan → (arc_at k).delay ≡ delay_of plan k
  delay_is k inside = sym (get_or-map (λ (d : Arc). d.delay) (arcs plan) k no_arc 0 inside)

  pub wire_is : (k : ℕ) → k < arc_count plan → is_wire (arc_at k).joins ≡ leb (2 * length plan.links) k
  wire_is k inside = by_test (cases_Bool (ltb k (2 * length plan.links)))
    where
      by_test : (ltb k (2 * length plan.links) ≡ true) ⊎ (ltb k (2 * length plan.links) ≡ false) → is_wire (arc_at k).joins ≡ leb (2 * length plan.links) k
      by_test (inl is) =
          let first : k < 2 * length plan.links = ltb-true k (2 * length plan.links) is in
          let front : k < length (link_arcs plan.links) = omega (arith, first, arcs_length plan.links) in
          ap (λ (d : Arc). is_wire d.joins) (front-at (link_arcs plan.links) (wire_arcs [] plan.wires) k no_arc front)
          ∙ link_joins plan.links k front
          ∙ sym (lt-leb (2 * length plan.links) k first)
      by_test (inr not) =
          let past : 2 * length plan.links ≤ k = ltb-false k (2 * length plan.links) not in
          let rest = k - length (link_arcs plan.links) in
          let back : k ≡ length (link_arcs plan.links) + rest = omega (arith, past, arcs_length plan.links) in
          let there : rest < length (wire_arcs [] plan.wires) = omega (arith, back, inside, arcs-count plan, wires_length [] plan.wires) in
          ap (λ (d : Arc). is_wire d.joins) (back-at (link_arcs plan.links) (wire_arcs [] plan.wires) k rest no_arc back)
          ∙ wire_joins [] plan.wires rest there
          ∙ sym (le-leb (2 * length plan.links) k past)

module _ (plan : PlanRec) (slot : Slot) where
  -- those of the first so many arcs
  abbrev pub logs_upto : ℕ → List LogRec
  logs_upto k = saved_logs slot (take k (arcs plan)) (take k (serial plan slot).histories)

  pub logs_more : (k : ℕ) → k < arc_count plan → logs_upto (k + 1) ≡ logs_upto k ++ saved_log slot (arc_at plan k) (history_in (serial plan slot).histories k) ∷ []
  logs_more k inside =
      let all = (serial plan slot).histories in
      logs_zipped slot (take (k + 1) (arcs plan)) (take (k + 1) all)
      ∙ zipped_more (saved_log slot) (arcs plan) all k no_arc [] inside (omega (arith, (all_serial plan slot).histories, inside))
      ∙ ap (λ logs. logs ++ saved_log slot (arc_at plan k) (history_in all k) ∷ []) (sym (logs_zipped slot (take k (arcs plan)) (take k all)))

  pub logs_whole : (k : ℕ) → arc_count plan ≤ k → logs_upto k ≡ saved_logs slot (arcs plan) (serial plan slot).histories
  logs_whole k all =
      let ds = take_all k (arcs plan) all in
      let histories = take_all k (serial plan slot).histories (omega (arith, (all_serial plan slot).histories, all)) in
      λ i. saved_logs slot (ds i) (histories i)

-- Two ends of a run of which the same is told but for the events.
use Rattle.std.proofs.Common.{ℕ, ◌≡◌, ◌+◌, ◌++◌, List, length}
use Rattle.std.specs.Prelude.{slice_index_or}
use Rattle.xs_base.specs.declared.numbers.TheConstants.{MEMORY_START}
use Rattle.xs_model.specs.Memory.{words_of}
use Rattle.sys_plan.specs.declared.NodePlan.{NodePlan}
use Rattle.sys_plan.specs.declared.WirePlan.{WirePlan}
use Rattle.sys_plan.specs.Plan.{PlanRec, Arc, link_arcs}
use Rattle.trace_model.specs.EventOrder.{Placed}
use Rattle.trace_model.specs.Trace.{EndRec, node_at, number_at, event_lines, more_line, more_at, traffic_line, traffic_at, changes_line, changes_at, halted_lines, halted_at, memory_lines, memory_at, by_position, events_in_order, lines_after_events, end_line, end_text}

-- the same of nodes' cores, of how many events were left out, and of how much arcs carried
pub record ToldAlike (one other : EndRec) : Type 0 where
  pub cores : (k : ℕ) → (node_at one k).core ≡ (node_at other k).core
  pub more : one.more ≡ other.more
  pub sent : one.sent ≡ other.sent

module _ (plan : PlanRec) (one other : EndRec) (h : ToldAlike one other) where
  more_same : by_position (more_at one) 0 plan.nodes ≡ by_position (more_at other) 0 plan.nodes
  more_same = λ i. by_position (λ k (node : NodePlan). more_line node.number (slice_index_or (h.more i) k 0)) 0 plan.nodes

  traffic_same : by_position (traffic_at plan.nodes one) 0 (link_arcs plan.links) ≡ by_position (traffic_at plan.nodes other) 0 (link_arcs plan.links)
  traffic_same =
      λ i. by_position (λ k (d : Arc). traffic_line (number_at plan.nodes d.from) d.from_end (number_at plan.nodes d.to) d.to_end (slice_index_or (h.sent i) k (0, 0))) 0 (link_arcs plan.links)

  changes_same : (first : ℕ) → by_position (changes_at plan.nodes first one) 0 plan.wires ≡ by_position (changes_at plan.nodes first other) 0 plan.wires
  changes_same first =
      λ i. by_position (λ w (wire : WirePlan). changes_line (number_at plan.nodes wire.a) wire.a_port (number_at plan.nodes wire.b) wire.b_port (slice_index_or (h.sent i) (first + w) (0, 0)).0) 0 plan.wires

  halted_same : by_position (halted_at one) 0 plan.nodes ≡ by_position (halted_at other) 0 plan.nodes
  halted_same = λ i. by_position (λ k (node : NodePlan). halted_lines node.number 0 (h.cores k i).threads) 0 plan.nodes

  memory_same : by_position (memory_at one) 0 plan.nodes ≡ by_position (memory_at other) 0 plan.nodes
  memory_same = λ i. by_position (λ k (node : NodePlan). memory_lines node.number MEMORY_START (words_of (h.cores k i).memory)) 0 plan.nodes

  pub lines_same : lines_after_events plan one ≡ lines_after_events plan other
  lines_same = λ i. more_same i ++ (traffic_same i ++ (changes_same (length (link_arcs plan.links)) i ++ (halted_same i ++ memory_same i)))

  -- so what is written of the one is what is written of the other, with the events of the one
  pub text_same : (slots : ℕ) (events : List Placed) → events_in_order one ≡ events → end_text plan slots one ≡ event_lines plan.nodes events ++ (lines_after_events plan other ++ end_line slots)
  unfolding end_text
  text_same slots events is = λ i. event_lines plan.nodes (is i) ++ (lines_same i ++ end_line slots)

-- Where the threads and the inputs of each node stand in the graph.
use Rattle.std.proofs.Common.{ℕ, zero, suc, ◌≡◌, ◌<◌, ◌+◌, ◌-◌, ◌*◌, List, [], ◌∷◌, ◌++◌, length, map, get_or, Option, Some, refl, ap, subst, ◌∙◌, inl, inr, arith}
use Rattle.std.specs.Prelude.{slice_get}
use Rattle.std.proofs.Math.ListN as lists
use Rattle.std.proofs.lemmas.List.{get_or_append_left, get_or-append_right, get_or-map}
use Rattle.std.proofs.lemmas.List.Elements.{All-get_or}
use Rattle.std.proofs.lemmas.Option.{slice_get_within, slice_get_cases, get_or_from_slice_get}
use Rattle.xs_base.specs.Numbers.{Position, ThreadNumber, InputNumber}
use Rattle.xs_base.specs.declared.numbers.TheConstants.{THREADS, INPUTS}
use Rattle.xs_model.specs.declared.thread.Thread.{Thread}
use Rattle.switch_routes.specs.declared.state.InputState.{InputState}
use Rattle.core_step.specs.declared.node_state.NodeState.{NodeState}
use Rattle.snap_parts.specs.declared.node.SnapNode.{SnapNode}
use Rattle.sys_plan.specs.declared.NodePlan.{NodePlan}
use Rattle.sys_plan.specs.Plan.{PlanRec}
use Rattle.circle_search.specs.Circles.{awaited}
use Rattle.look_model.specs.WaitGraph.{waiters, thread_at, input_at, waits_of_thread, waits_of_threads, waits_of_input, waits_of_node, waits_of_kept, waits_from, wait_graph}
use Rattle.look_laws.specs.Kept.{AreKept, IsThread, IsInput}

-- ---- The threads of a node

length-threads : (n : Position) (state : NodeState) (k : ThreadNumber) (threads : List Thread) → length (waits_of_threads n state k threads) ≡ length threads
length-threads n state k [] = refl
length-threads n state k (th ∷ threads) = ap suc (length-threads n state (k + 1) threads)

thread_among : (n : Position) (state : NodeState) (from k : ThreadNumber) (threads : List Thread) (th : Thread) → slice_get threads k ≡ Some th
    → get_or (waits_of_threads n state from threads) k [] ≡ waits_of_thread n state (from + k) th.run
thread_among n state from k [] th is = cc
thread_among n state from zero (first ∷ threads) th is =
    let e : first ≡ th = cc in
    let f : from ≡ from + 0 = omega arith in
    ap (λ (m : ℕ). waits_of_thread n state m first.run) f ∙ ap (λ (it : Thread). waits_of_thread n state (from + 0) it.run) e
thread_among n state from (suc k) (first ∷ threads) th is =
    let e : from + 1 + k ≡ from + suc k = omega arith in
    thread_among n state (from + 1) k threads th is ∙ ap (λ (m : ℕ). waits_of_thread n state m th.run) e

-- ---- A node

module _ (plan : PlanRec) (snaps : List SnapNode) where
  -- what stands at a place of the graph of the nodes from position m on, where each has as many as there are
  place_from : (m : Position) (nodes : List NodePlan) (j i : ℕ) (node : NodePlan)
      → ((p : Position) (other : NodePlan) → p < m + length nodes → length (waits_of_kept plan snaps p other (slice_get snaps p)) ≡ waiters)
      → i < waiters → slice_get nodes j ≡ Some node
      → get_or (waits_from plan snaps m nodes) (j * waiters + i) [] ≡ get_or (waits_of_kept plan snaps (m + j) node (slice_get snaps (m + j))) i []
  place_from m [] j i node each low is = cc
  place_from m (first ∷ nodes) zero i node each low is =
      let its = waits_of_kept plan snaps m first (slice_get snaps m) in
      let many : length its ≡ waiters = each m first (omega arith) in
      let e : first ≡ node = cc in
      let rest = waits_from plan snaps (m + 1) nodes in
      let f : m ≡ m + 0 = omega arith in
      let g : 0 * waiters + i ≡ i = omega arith in
      ap (λ (v : ℕ). get_or (its ++ rest) v []) g
      ∙ get_or_append_left its rest [] i (omega (arith, many, low))
      ∙ ap (λ (it : NodePlan). get_or (waits_of_kept plan snaps m it (slice_get snaps m)) i []) e
      ∙ ap (λ (p : ℕ). get_or (waits_of_kept plan snaps p node (slice_get snaps p)) i []) f
  place_from m (first ∷ nodes) (suc j) i node each low is =
      let its = waits_of_kept plan snaps m first (slice_get snaps m) in
      let rest = waits_from plan snaps (m + 1) nodes in
      let many : length its ≡ waiters = each m first (omega arith) in
      let f : m + 1 + j ≡ m + suc j = omega arith in
      let g : suc j * waiters + i - waiters ≡ j * waiters + i = omega arith in
      get_or-append_right its rest waiters (suc j * waiters + i) [] many (omega arith)
      ∙ ap (λ (v : ℕ). get_or rest v []) g
      ∙ place_from (m + 1) nodes j i node (λ p other below. each p other (omega (arith, below))) low is
      ∙ ap (λ (p : ℕ). get_or (waits_of_kept plan snaps p node (slice_get snaps p)) i []) f

  length-from : (m : Position) (nodes : List NodePlan)
      → ((p : Position) (other : NodePlan) → p < m + length nodes → length (waits_of_kept plan snaps p other (slice_get snaps p)) ≡ waiters)
      → length (waits_from plan snaps m nodes) ≡ length nodes * waiters
  length-from m [] each = refl
  length-from m (first ∷ nodes) each =
      let its = waits_of_kept plan snaps m first (slice_get snaps m) in
      let rest = waits_from plan snaps (m + 1) nodes in
      omega (arith, lists.length-append its rest, each m first (omega arith), length-from (m + 1) nodes (λ p other below. each p other (omega (arith, below))))

  module _ (kept : AreKept plan snaps) where
    has_threads : (p : Position) (snap : SnapNode) → slice_get snaps p ≡ Some snap → length snap.state.threads ≡ THREADS
    has_threads p snap is =
        subst (λ (it : SnapNode). length it.state.threads ≡ THREADS) (get_or_from_slice_get snaps p snap snap is)
        (All-get_or (λ (it : SnapNode). length it.state.threads ≡ THREADS) snaps p snap (slice_get_within snaps p snap is) kept.threads)

    has_inputs : (p : Position) (snap : SnapNode) → slice_get snaps p ≡ Some snap → length snap.state.inputs ≡ INPUTS
    has_inputs p snap is =
        subst (λ (it : SnapNode). length it.state.inputs ≡ INPUTS) (get_or_from_slice_get snaps p snap snap is)
        (All-get_or (λ (it : SnapNode). length it.state.inputs ≡ INPUTS) snaps p snap (slice_get_within snaps p snap is) kept.inputs)

    -- each node has as many as there are
    node_has_all : (p : Position) (other : NodePlan) (snap : SnapNode) → slice_get snaps p ≡ Some snap → length (waits_of_node plan snaps p other snap.state) ≡ waiters
    node_has_all p other snap is =
        omega (
          arith,
          lists.length-append (waits_of_threads p snap.state 0 snap.state.threads) (map (waits_of_input plan snaps p other snap.state) snap.state.inputs),
          length-threads p snap.state 0 snap.state.threads,
          lists.length-map snap.state.inputs (waits_of_input plan snaps p other snap.state),
          has_threads p snap is,
          has_inputs p snap is,
        )

    each_has_all : (p : Position) (other : NodePlan) → p < 0 + length plan.nodes → length (waits_of_kept plan snaps p other (slice_get snaps p)) ≡ waiters
    each_has_all p other low =
        elim (slice_get_cases snaps p).1 [
          | inl (snap, within, is, same) ↦ ap (λ (o : Option SnapNode). length (waits_of_kept plan snaps p other o)) is ∙ node_has_all p other snap is
          | inr (past, none) ↦ absurd (omega (arith, past, low, kept.nodes))
        ]

    pub vertices : length (wait_graph plan snaps) ≡ length plan.nodes * waiters
    vertices = length-from 0 plan.nodes each_has_all

    -- what stands at a place of a node
    place : (n : Position) (node : NodePlan) (snap : SnapNode) (i : ℕ) → slice_get plan.nodes n ≡ Some node → slice_get snaps n ≡ Some snap → i < waiters
        → awaited (wait_graph plan snaps) (n * waiters + i) ≡ get_or (waits_of_node plan snaps n node snap.state) i []
    place n node snap i planned is low =
        let e : 0 + n ≡ n = omega arith in
        place_from 0 plan.nodes n i node each_has_all low planned
        ∙ ap (λ (p : ℕ). get_or (waits_of_kept plan snaps p node (slice_get snaps p)) i []) e
        ∙ ap (λ (o : Option SnapNode). get_or (waits_of_kept plan snaps n node o) i []) is

    pub thread_there : (n : Position) (snap : SnapNode) (k : ThreadNumber) (th : Thread) → IsThread snaps n snap k th
        → awaited (wait_graph plan snaps) (thread_at n k) ≡ waits_of_thread n snap.state k th.run
    thread_there n snap k th is =
        let low = slice_get_within snap.state.threads k th is.thread in
        let many = has_threads n snap is.node in
        let threads = waits_of_threads n snap.state 0 snap.state.threads in
        let e : 0 + k ≡ k = omega arith in
        elim (slice_get_cases plan.nodes n).1 [
          | inl (node, within, planned, same) ↦
              place n node snap k planned is.node (omega (arith, low, many))
              ∙ get_or_append_left threads (map (waits_of_input plan snaps n node snap.state) snap.state.inputs) [] k
              (omega (arith, length-threads n snap.state 0 snap.state.threads, low))
              ∙ thread_among n snap.state 0 k snap.state.threads th is.thread
              ∙ ap (λ (m : ℕ). waits_of_thread n snap.state m th.run) e
          | inr (past, none) ↦ absurd (omega (arith, past, slice_get_within snaps n snap is.node, kept.nodes))
        ]

    pub input_there : (n : Position) (node : NodePlan) (snap : SnapNode) (i : InputNumber) (now : InputState) → IsInput plan snaps n node snap i now
        → awaited (wait_graph plan snaps) (input_at n i) ≡ waits_of_input plan snaps n node snap.state now
    input_there n node snap i now is =
        let low = slice_get_within snap.state.inputs i now is.input in
        let threads = waits_of_threads n snap.state 0 snap.state.threads in
        let inputs = map (waits_of_input plan snaps n node snap.state) snap.state.inputs in
        let many : length threads ≡ THREADS = length-threads n snap.state 0 snap.state.threads ∙ has_threads n snap is.kept in
        let e : THREADS + i - THREADS ≡ i = omega arith in
        place n node snap (THREADS + i) is.planned is.kept (omega (arith, low, has_inputs n snap is.kept))
        ∙ get_or-append_right threads inputs THREADS (THREADS + i) [] many (omega arith)
        ∙ ap (λ (v : ℕ). get_or inputs v []) e
        ∙ get_or-map (waits_of_input plan snaps n node snap.state) snap.state.inputs i now [] low
        ∙ ap (waits_of_input plan snaps n node snap.state) (get_or_from_slice_get snap.state.inputs i now now is.input)

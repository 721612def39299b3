-- What a run saves has the form of a snapshot.
use Rattle.std.proofs.Common.{◌≡◌, ℕ, zero, suc, ◌+◌, ◌-◌, ◌*◌, ◌<◌, ◌≤◌, ◌^◌, List, [], ◌∷◌, ◌++◌, length, take, drop, get_or, refl, sym, ap, ◌∙◌, subst, arith}
use Rattle.std.specs.Prelude.{Some, None, slice_get, map, nat_lt}
use Rattle.std.specs.List.{AllByRecursion}
use Rattle.std.proofs.lemmas.List.{length_push, length-take, take-append-drop}
use Rattle.xs_base.specs.Ids.{port_width}
use Rattle.xs_base.specs.Numbers.{Slot}
use Rattle.sys_plan.specs.declared.NodePlan.{NodePlan}
use Rattle.sys_plan.specs.declared.LinkPlan.{LinkPlan}
use Rattle.sys_plan.specs.declared.WirePlan.{WirePlan}
use Rattle.sys_plan.specs.Plan.{PlanRec, gaps_of}
use Rattle.xs_model.specs.FirstEvents.{kept_at_most}
use Rattle.core_step.specs.States.{IsNodeState, IsStateBefore}
use Rattle.snap_parts.specs.declared.node.SnapNode.{SnapNode}
use Rattle.snap_parts.specs.Parts.{LogRec, BodyRec}
use Rattle.snap_parts.specs.Snaps.{AreSnapNodes}
use Rattle.byte_forms.specs.Forms.{HoldInChain}
use Rattle.state_bridge.specs.Fits.{NumbersFit}
use Rattle.node_forms.specs.Nodes.{snap_node}
use Rattle.snap_codec.specs.Body.{there_of, node_after, link_pair, link_at, wire_at, pair_after, wire_after, by_number, in_pairs, links, wires, nodes}
use Rattle.log_forms.specs.Logs.{wire_log}
use Rattle.saved_laws.specs.Laws.{IsCounted}

-- ---- Nodes

-- what `nodes_have_the_form` of state_bridge ensures
abbrev pub NodesHaveTheForm : Type 0
NodesHaveTheForm = (gaps : List ℕ) (slot : Slot) (node : SnapNode) → length gaps ≡ 8 → slot < 2 ^ 32 → node.kept ≤ kept_at_most → node.more < 2 ^ 63
    → IsNodeState gaps node.state → IsStateBefore slot node.state → NumbersFit node.state → (snap_node (map (λ gap. nat_lt 0 gap) gaps) slot).Holds node

nodes_chain : NodesHaveTheForm → (plan : PlanRec) (slot : Slot) → slot < 2 ^ 32 → (given : List NodePlan) (before snaps : List SnapNode) → AreSnapNodes plan slot (length before) given snaps
    → AllByRecursion IsCounted snaps → AllByRecursion (λ (node : SnapNode). NumbersFit node.state) snaps → HoldInChain (node_after plan slot) before snaps
unfolding HoldInChain
nodes_chain has plan slot small given before [] are counted fits = tt
nodes_chain has plan slot small [] before (snap ∷ snaps) are counted fits = absurd are
nodes_chain has plan slot small (node ∷ given) before (snap ∷ snaps) are counted fits =
    let n = length before in (
      has (gaps_of plan n) slot snap refl small counted.0.kept counted.0.more are.0.state are.0.before fits.0,
      nodes_chain has plan slot small given (before ++ snap ∷ []) snaps (subst (λ (m : ℕ). AreSnapNodes plan slot m given snaps) (sym (length_push before snap)) are.1) counted.1 fits.1,
    )

pub nodes_hold : NodesHaveTheForm → (plan : PlanRec) (slot : Slot) → slot < 2 ^ 32 → (snaps : List SnapNode) → length snaps ≡ length plan.nodes → AreSnapNodes plan slot 0 plan.nodes snaps
    → AllByRecursion IsCounted snaps → AllByRecursion (λ (node : SnapNode). NumbersFit node.state) snaps → (nodes plan slot).Holds snaps
nodes_hold has plan slot small snaps many are counted fits = (many, nodes_chain has plan slot small plan.nodes [] snaps are counted fits)

-- ---- Pairs of directed links

-- what stands where there is no log
abbrev pub no_log : LogRec
no_log = record { entries = []; tokens = 0; credits = 0; level = 0 }

abbrev no_pair : LogRec × LogRec
no_pair = (no_log, no_log)

pairs_many : (logs : List LogRec) (n : ℕ) → length logs ≡ 2 * n → length (in_pairs logs) ≡ n
pairs_many [] n many = omega (arith, many)
pairs_many (a ∷ []) n many = absurd (omega (arith, many))
pairs_many (a ∷ (b ∷ logs)) zero many = absurd (omega (arith, many))
pairs_many (a ∷ (b ∷ logs)) (suc n) many = ap suc (pairs_many logs n (omega (arith, many)))

pairs_back : (logs : List LogRec) (n : ℕ) → length logs ≡ 2 * n → by_number (in_pairs logs) ≡ logs
pairs_back [] n many = refl
pairs_back (a ∷ []) n many = absurd (omega (arith, many))
pairs_back (a ∷ (b ∷ logs)) zero many = absurd (omega (arith, many))
pairs_back (a ∷ (b ∷ logs)) (suc n) many = ap (λ rest. a ∷ (b ∷ rest)) (pairs_back logs n (omega (arith, many)))

pair_at : (logs : List LogRec) (n k : ℕ) → length logs ≡ 2 * n → k < n → get_or (in_pairs logs) k no_pair ≡ (get_or logs (k + k) no_log, get_or logs (suc (k + k)) no_log)
pair_at [] n k many inside = absurd (omega (arith, many, inside))
pair_at (a ∷ []) n k many inside = absurd (omega (arith, many))
pair_at (a ∷ (b ∷ logs)) zero k many inside = absurd (omega (arith, inside))
pair_at (a ∷ (b ∷ logs)) (suc n) zero many inside = refl
pair_at (a ∷ (b ∷ logs)) (suc n) (suc k) many inside =
    let next : suc k + suc k ≡ suc (suc (k + k)) = omega arith in
    pair_at logs n k (omega (arith, many)) (omega (arith, inside))
    ∙ ap (λ m. (get_or (a ∷ (b ∷ logs)) m no_log, get_or (a ∷ (b ∷ logs)) (suc m) no_log)) (sym next)

module _ (plan : PlanRec) (slot : Slot) (all : List SnapNode) where
  pairs_chain : (before ps : List (LogRec × LogRec)) → ((i : ℕ) → i < length ps → (link_pair slot all (link_at plan.links (length before + i))).Holds (get_or ps i no_pair))
      → HoldInChain (pair_after plan slot all) before ps
  unfolding HoldInChain
  pairs_chain before [] each = tt
  pairs_chain before (p ∷ ps) each =
      let here : length before + 0 ≡ length before = omega arith in (
        subst (λ (n : ℕ). (link_pair slot all (link_at plan.links n)).Holds p) here (each 0 (omega arith)),
        pairs_chain (before ++ p ∷ []) ps (λ i inside.
            let there : length before + suc i ≡ length (before ++ p ∷ []) + i = omega (arith, length_push before p) in
            subst (λ (n : ℕ). (link_pair slot all (link_at plan.links n)).Holds (get_or ps i no_pair)) there (each (suc i) (omega (arith, inside)))),
      )

  -- where each link's two logs have its form
  pub links_hold : (logs : List LogRec) → length logs ≡ 2 * length plan.links
      → ((k : ℕ) → k < length plan.links → (link_pair slot all (link_at plan.links k)).Holds (get_or logs (k + k) no_log, get_or logs (suc (k + k)) no_log))
      → (links plan slot all).Holds logs
  links_hold logs many each =
      let count = pairs_many logs (length plan.links) many in
      let one = λ (i : ℕ) (inside : i < length (in_pairs logs)).
      let below : i < length plan.links = omega (arith, inside, count) in
      let first : i ≡ 0 + i = omega arith in
      subst (λ (n : ℕ). (link_pair slot all (link_at plan.links n)).Holds (get_or (in_pairs logs) i no_pair)) first
      (subst (λ (p : LogRec × LogRec). (link_pair slot all (link_at plan.links i)).Holds p) (sym (pair_at logs (length plan.links) i many below)) (each i below)) in
      ((count, pairs_chain [] (in_pairs logs) one), pairs_back logs (length plan.links) many)

  wires_chain : (before ws : List LogRec)
      → ((i : ℕ) → i < length ws → (wire_log slot (wire_at plan.wires (length before + i)).delay (port_width (wire_at plan.wires (length before + i)).b_port)).Holds (get_or ws i no_log))
      → HoldInChain (wire_after plan slot) before ws
  unfolding HoldInChain
  wires_chain before [] each = tt
  wires_chain before (w ∷ ws) each =
      let here : length before + 0 ≡ length before = omega arith in (
        subst (λ (n : ℕ). (wire_log slot (wire_at plan.wires n).delay (port_width (wire_at plan.wires n).b_port)).Holds w) here (each 0 (omega arith)),
        wires_chain (before ++ w ∷ []) ws (λ i inside.
            let there : length before + suc i ≡ length (before ++ w ∷ []) + i = omega (arith, length_push before w) in
            subst (λ (n : ℕ). (wire_log slot (wire_at plan.wires n).delay (port_width (wire_at plan.wires n).b_port)).Holds (get_or ws i no_log)) there (each (suc i) (omega (arith, inside)))),
      )

  pub wires_hold : (ws : List LogRec) → length ws ≡ length plan.wires
      → ((k : ℕ) → k < length plan.wires → (wire_log slot (wire_at plan.wires k).delay (port_width (wire_at plan.wires k).b_port)).Holds (get_or ws k no_log))
      → (wires plan slot).Holds ws
  wires_hold ws many each = (
    many,
    wires_chain [] ws (λ i inside.
        let first : i ≡ 0 + i = omega arith in
        subst (λ (n : ℕ). (wire_log slot (wire_at plan.wires n).delay (port_width (wire_at plan.wires n).b_port)).Holds (get_or ws i no_log)) first (each i (omega (arith, inside, many)))),
  )

-- The nodes of a snapshot are what a run asks for that goes on from it.
use Rattle.std.proofs.Common.{◌≡◌, List, [], ◌∷◌, ◌++◌, ℕ, length, refl, subst, arith}
use Rattle.std.proofs.lemmas.List.{length_push}
use Rattle.xs_base.specs.Numbers.{Slot, Position}
use Rattle.sys_plan.specs.declared.NodePlan.{NodePlan}
use Rattle.sys_plan.specs.Plan.{PlanRec, gaps_of}
use Rattle.snap_parts.specs.declared.node.SnapNode.{SnapNode}
use Rattle.snap_parts.specs.Snaps.{IsSnapNode, AreSnapNodes}
use Rattle.byte_forms.specs.Forms.{HoldInChain}
use Rattle.node_forms.specs.Nodes.{snap_node}
use Rattle.node_forms.proofs.Facts.{node_facts}
use Rattle.snap_codec.specs.Body.{there_of, node_after, nodes}

node_is : (plan : PlanRec) (slot : Slot) (n : Position) (snap : SnapNode) → (snap_node (there_of plan n) slot).Holds snap → IsSnapNode plan slot n snap
unfolding snap_node
node_is plan slot n snap h = let f = node_facts (gaps_of plan n) slot snap.state refl h.1.1 in record { state = f.0; before = f.1 }

nodes_from : (plan : PlanRec) (slot : Slot) (given : List NodePlan) (before snaps : List SnapNode) → length snaps ≡ length given → HoldInChain (node_after plan slot) before snaps
    → AreSnapNodes plan slot (length before) given snaps
unfolding HoldInChain
nodes_from plan slot [] before [] len h = tt
nodes_from plan slot [] before (snap ∷ snaps) len h = absurd (omega (arith, len))
nodes_from plan slot (node ∷ given) before [] len h = absurd (omega (arith, len))
nodes_from plan slot (node ∷ given) before (snap ∷ snaps) len h =
    let more = nodes_from plan slot given (before ++ snap ∷ []) snaps (omega (arith, len)) h.1 in
    (node_is plan slot (length before) snap h.0, subst (λ (n : ℕ). AreSnapNodes plan slot n given snaps) (length_push before snap) more)

pub nodes_are : (plan : PlanRec) (slot : Slot) (snaps : List SnapNode) → (nodes plan slot).Holds snaps → AreSnapNodes plan slot 0 plan.nodes snaps
nodes_are plan slot snaps h = nodes_from plan slot plan.nodes [] snaps h.0 h.1

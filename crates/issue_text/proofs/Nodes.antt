-- The lines of nodes and of slots, one after the other.
use Rattle.std.proofs.Common.{◌≡◌, ℕ, zero, suc, ◌+◌, ◌-◌, ◌≤◌, List, [], ◌∷◌, ◌++◌, take, sym, ap, ◌∙◌, arith, append_assoc}
use Rattle.std.specs.Prelude.{Some, slice_get}
use Rattle.std.proofs.lemmas.List.{append-nil}
use Rattle.sys_plan.specs.declared.NodePlan.{NodePlan}
use Rattle.sys_plan.specs.Plan.{PlanRec}
use Rattle.core_step.specs.declared.told.Told.{Told}
use Rattle.told_run.specs.Slots.{IsToldIn}
use Rattle.issue_model.specs.Issues.{lines_by, node_lines, nodes_lines, lines_from}
use Rattle.issue_text.specs.declared.node_slot.NodeSlot.{NodeSlot}
use Rattle.issue_text.specs.NodeSlots.{IsNodeSlot, lines_in}

-- one node more
pub nodes-more : (lines : ℕ → NodePlan → List (List ℕ)) (n k m : ℕ) (nodes : List NodePlan) (node : NodePlan) → slice_get nodes k ≡ Some node → n + k ≡ m
    → nodes_lines lines n (take k nodes) ++ lines m node ≡ nodes_lines lines n (take (suc k) nodes)
nodes-more lines n k m [] node here at = cc
nodes-more lines n zero m (x ∷ nodes) node here at =
    let same : node ≡ x = cc in
    let place : m ≡ n = omega (arith, at) in
    (λ i. lines (place i) (same i)) ∙ sym (append-nil (lines n x))
nodes-more lines n (suc k) m (x ∷ nodes) node here at =
    append_assoc (lines n x) (nodes_lines lines (n + 1) (take k nodes)) (lines m node)
    ∙ ap (λ (t : List (List ℕ)). lines n x ++ t) (nodes-more lines (n + 1) k m nodes node here (omega (arith, at)))

-- what is told of a node makes its line
pub node-told : (plan : PlanRec) (lines : List (List ℕ)) (slot n : ℕ) (at : NodeSlot) (told : Told) → IsNodeSlot plan lines slot n at → IsToldIn plan slot n told
    → lines_in at told ≡ node_lines plan lines slot n at.node.now
node-told plan lines slot n at told is tells =
    let its = tells at.node.now is.node in
    λ i. lines_by at.node.now (is.numbers i) (is.slot_is i) (is.before i) (is.after i) (its.traps i) (its.issue i)

module _ (lines : ℕ → List (List ℕ)) (from : ℕ) where
  pub no-slot : [] ≡ lines_from lines from (from - from)
  no-slot =
      let none : 0 ≡ from - from = omega arith in
      ap (lines_from lines from) none

  -- one slot more
  pub one-slot : (now next : ℕ) → from ≤ now → next ≡ now + 1 → lines_from lines from (now - from) ++ lines now ≡ lines_from lines from (next - from)
  one-slot now next on is =
      let here : now ≡ from + (now - from) = omega (arith, on) in
      let count : suc (now - from) ≡ next - from = omega (arith, on, is) in
      ap (λ (slot : ℕ). lines_from lines from (now - from) ++ lines slot) here ∙ ap (lines_from lines from) count

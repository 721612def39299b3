-- The nodes of the serial machine: as many as the plan's, each with its 29 ports.
use Rattle.std.proofs.Common.{◌≡◌, ℕ, zero, suc, ◌+◌, List, [], ◌∷◌, length, map, get_or, replicate, refl, ap, ◌∙◌, arith}
use Rattle.std.proofs.lemmas.List.{length-map}
use Rattle.xs_base.specs.Numbers.{Slot, Position}
use Rattle.xs_base.specs.declared.entry.Entry.{Entry}
use Rattle.xs_model.specs.Record.{NodeRec, first_node}
use Rattle.sys_plan.specs.declared.NodePlan.{NodePlan}
use Rattle.sys_plan.specs.Plan.{PlanRec, node_numbers}
use Rattle.step_model.specs.Step.{Stepped}
use Rattle.step_laws.specs.Shape.{HasShape}
use Rattle.step_laws.proofs.SlotEvents.{first_has_shape, slot_keeps_shape}
use Rattle.serial_model.specs.Serial.{nodes_at_start, steps_from, steps_of, serial}
use Rattle.locality_laws.specs.Locality.{node_in}

-- ---- How many they are

start_count : (plan : PlanRec) (n : Position) (nodes : List NodePlan) → length (nodes_at_start plan n nodes) ≡ length nodes
start_count plan n [] = refl
start_count plan n (node ∷ nodes) = ap suc (start_count plan (n + 1) nodes)

steps_count : (plan : PlanRec) (histories : List (List Entry)) (slot : Slot) (n : Position) (nodes : List NodePlan) (recs : List NodeRec)
    → length recs ≡ length nodes → length (steps_from plan histories slot n nodes recs) ≡ length nodes
steps_count plan histories slot n [] recs e = refl
steps_count plan histories slot n (node ∷ nodes) [] e = absurd (omega (arith, e))
steps_count plan histories slot n (node ∷ nodes) (rec ∷ recs) e = ap suc (steps_count plan histories slot (n + 1) nodes recs (omega (arith, e)))

pub nodes_count : (plan : PlanRec) (slot : Slot) → length (serial plan slot).nodes ≡ length plan.nodes
unfolding serial
nodes_count plan zero = start_count plan 0 plan.nodes
nodes_count plan (suc slot) =
    length-map (steps_of plan slot (serial plan slot)) (λ (s : Stepped). s.rec)
    ∙ steps_count plan (serial plan slot).histories slot 0 plan.nodes (serial plan slot).nodes (nodes_count plan slot)

pub numbers_count : (plan : PlanRec) → length (node_numbers plan) ≡ length plan.nodes
numbers_count plan = length-map plan.nodes (λ (node : NodePlan). node.number)

-- ---- Their ports

-- what stands for a node where none is
abbrev pub no_node : NodeRec
no_node = first_node 0 0 []

module _ (plan : PlanRec) where
  start_has : (n : Position) (nodes : List NodePlan) (k : ℕ) → HasShape (get_or (nodes_at_start plan n nodes) k no_node)
  start_has n [] k = first_has_shape _ _ _ _
  start_has n (node ∷ nodes) zero = first_has_shape _ _ _ _
  start_has n (node ∷ nodes) (suc k) = start_has (n + 1) nodes k

  steps_have : (histories : List (List Entry)) (slot : Slot) (n : Position) (nodes : List NodePlan) (recs : List NodeRec)
      → ((k : ℕ) → HasShape (get_or recs k no_node))
      → (k : ℕ) → HasShape (get_or (map (λ (s : Stepped). s.rec) (steps_from plan histories slot n nodes recs)) k no_node)
  steps_have histories slot n [] recs have k = first_has_shape _ _ _ _
  steps_have histories slot n (node ∷ nodes) [] have k = first_has_shape _ _ _ _
  steps_have histories slot n (node ∷ nodes) (rec ∷ recs) have zero = slot_keeps_shape _ rec slot _ _ (have 0)
  steps_have histories slot n (node ∷ nodes) (rec ∷ recs) have (suc k) = steps_have histories slot (n + 1) nodes recs (λ j. have (suc j)) k

  nodes_have : (slot : Slot) (n : Position) → HasShape (node_in (serial plan slot) n)
  unfolding serial
  nodes_have zero n = start_has 0 plan.nodes n
  nodes_have (suc slot) n = steps_have (serial plan slot).histories slot 0 plan.nodes (serial plan slot).nodes (nodes_have slot) n

  pub ports_many : (slot : Slot) (n : Position) → length (node_in (serial plan slot) n).core.ports ≡ 29
  ports_many slot n = (nodes_have slot n).ports

  -- ---- What their pins show at first

  start_levels : (n : Position) (nodes : List NodePlan) (k : ℕ) → (get_or (nodes_at_start plan n nodes) k no_node).levels ≡ replicate 29 0
  start_levels n [] k = refl
  start_levels n (node ∷ nodes) zero = refl
  start_levels n (node ∷ nodes) (suc k) = start_levels (n + 1) nodes k

  pub first_levels : (n : Position) → (node_in (serial plan 0) n).levels ≡ replicate 29 0
  unfolding serial
  first_levels n = start_levels 0 plan.nodes n

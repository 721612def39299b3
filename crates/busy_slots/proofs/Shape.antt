-- Each node of the serial machine has the shape that every node has, before every slot.
use Rattle.std.proofs.Common.{ℕ, zero, suc, ◌+◌, List, [], ◌∷◌, map, get_or}
use Rattle.xs_base.specs.Numbers.{Slot, Position}
use Rattle.xs_base.specs.declared.entry.Entry.{Entry}
use Rattle.xs_model.specs.Record.{NodeRec, first_node}
use Rattle.sys_plan.specs.declared.NodePlan.{NodePlan}
use Rattle.sys_plan.specs.Plan.{PlanRec, gaps_of}
use Rattle.step_model.specs.Start.{node_of}
use Rattle.step_model.specs.Step.{Stepped}
use Rattle.step_laws.specs.Shape.{HasShape, FirstHasShape, SlotKeepsShape}
use Rattle.serial_model.specs.Serial.{nodes_at_start, steps_from, serial}
use Rattle.locality_laws.specs.Locality.{node_in}
use Rattle.quiet_laws.specs.Undisturbed.{IsWhole}

module _ (first : FirstHasShape) (keeps : SlotKeepsShape) (plan : PlanRec) where
  -- what stands for a node where none is
  abbrev no_node : NodeRec
  no_node = first_node 0 0 []

  no_node_has : HasShape no_node
  no_node_has = let some = first 0 0 [] [] in record { ports = some.ports; threads = some.threads; held = some.held }

  node_has : (node : NodePlan) (gaps : List ℕ) → HasShape (node_of node gaps)
  node_has node gaps = record { ports = no_node_has.ports; threads = no_node_has.threads; held = no_node_has.held }

  start_has : (n : Position) (nodes : List NodePlan) (k : ℕ) → HasShape (get_or (nodes_at_start plan n nodes) k no_node)
  start_has n [] k = no_node_has
  start_has n (node ∷ nodes) zero = node_has node (gaps_of plan n)
  start_has n (node ∷ nodes) (suc k) = start_has (n + 1) nodes k

  steps_have : (histories : List (List Entry)) (slot : Slot) (n : Position) (nodes : List NodePlan) (recs : List NodeRec)
      → ((k : ℕ) → HasShape (get_or recs k no_node))
      → (k : ℕ) → HasShape (get_or (map (λ (s : Stepped). s.rec) (steps_from plan histories slot n nodes recs)) k no_node)
  steps_have histories slot n [] recs have k = no_node_has
  steps_have histories slot n (node ∷ nodes) [] have k = no_node_has
  steps_have histories slot n (node ∷ nodes) (rec ∷ recs) have zero = keeps _ rec slot _ _ (have 0)
  steps_have histories slot n (node ∷ nodes) (rec ∷ recs) have (suc k) = steps_have histories slot (n + 1) nodes recs (λ j. have (suc j)) k

  nodes_have : (slot : Slot) (n : Position) → HasShape (node_in (serial plan slot) n)
  unfolding serial
  nodes_have zero n = start_has 0 plan.nodes n
  nodes_have (suc slot) n = steps_have (serial plan slot).histories slot 0 plan.nodes (serial plan slot).nodes (nodes_have slot) n

  pub nodes_are_whole : (slot : Slot) (n : Position) → IsWhole (node_in (serial plan slot) n).core
  nodes_are_whole slot n = let has = nodes_have slot n in record { ports = has.ports; last = has.threads }

-- Every node of a run has all inputs of its switch, and the inputs make their steps one after the other.
use Rattle.std.proofs.Common.{◌≡◌, ℕ, zero, suc, ◌+◌, ◌<◌, ◌≤◌, List, [], ◌∷◌, length, map, get_or, refl, sym, ap, subst, ◌∙◌, arith}
use Rattle.std.specs.List.{AllByRecursion}
use Rattle.xs_base.specs.Numbers.{Slot, Position, InputNumber}
use Rattle.xs_base.specs.declared.numbers.TheConstants.{INPUTS}
use Rattle.xs_model.specs.AtWork.{AtWork}
use Rattle.xs_model.specs.Record.{NodeRec, first_node}
use Rattle.net_model.specs.Switch.{Routes, input_step, moves_from}
use Rattle.sys_plan.specs.declared.NodePlan.{NodePlan}
use Rattle.sys_plan.specs.Plan.{PlanRec, gaps_of}
use Rattle.step_model.specs.Start.{fixed_of}
use Rattle.step_model.specs.Step.{Stepped}
use Rattle.serial_model.specs.Serial.{nodes_at_start, steps_from, coming_at, serial}
use Rattle.packet_laws.specs.Flow.{Works, SwitchesKeepTokens}
use Rattle.packet_laws.proofs.Alike.{node_counts}
use Rattle.switch_laws.specs.Runs.{StepsOf}

-- ---- Inputs

abbrev HasAll : NodeRec → Type 0
HasAll rec = length rec.inputs ≡ INPUTS

start_has : (plan : PlanRec) (n : Position) (nodes : List NodePlan) → AllByRecursion HasAll (nodes_at_start plan n nodes)
start_has plan n [] = tt
start_has plan n (node ∷ nodes) = (refl, start_has plan (n + 1) nodes)

steps_have : (plan : PlanRec) (slot : Slot) (n : Position) (nodes : List NodePlan) (recs : List NodeRec) → AllByRecursion HasAll recs
    → AllByRecursion HasAll (map (λ (s : Stepped). s.rec) (steps_from plan (serial plan slot).histories slot n nodes recs))
steps_have plan slot n [] recs all = tt
steps_have plan slot n (node ∷ nodes) [] all = tt
steps_have plan slot n (node ∷ nodes) (rec ∷ recs) all =
    let coming = coming_at plan (serial plan slot).histories slot n in
    (node_counts (fixed_of node (gaps_of plan n)) rec slot coming.arrivals coming.pins ∙ all.0, steps_have plan slot (n + 1) nodes recs all.1)

nodes_have : (plan : PlanRec) (slot : Slot) → AllByRecursion HasAll (serial plan slot).nodes
unfolding serial
nodes_have plan zero = start_has plan 0 plan.nodes
nodes_have plan (suc slot) = steps_have plan slot 0 plan.nodes (serial plan slot).nodes (nodes_have plan slot)

one_has : (recs : List NodeRec) (n : Position) → AllByRecursion HasAll recs → HasAll (get_or recs n (first_node 0 0 []))
one_has [] n all = refl
one_has (rec ∷ recs) zero all = all.0
one_has (rec ∷ recs) (suc n) all = one_has recs n all.1

pub has_all : (plan : PlanRec) (slot : Slot) (n : Position) → HasAll (get_or (serial plan slot).nodes n (first_node 0 0 []))
has_all plan slot n = one_has (serial plan slot).nodes n (nodes_have plan slot)

-- ---- Steps

module _ (keeps : SwitchesKeepTokens) (routes : Routes) (slot : Slot) where
  -- so many steps, and then one more
  one_more : (i count : ℕ) (m : AtWork) → moves_from routes slot i (suc count) m ≡ input_step routes slot (i + count) (moves_from routes slot i count m)
  unfolding moves_from
  one_more i zero m =
      let same : i ≡ i + 0 = omega arith in ap (λ n. input_step routes slot n m) same
  one_more i (suc count) m =
      let same : i + 1 + count ≡ i + suc count = omega arith in
      one_more (i + 1) count (input_step routes slot i m) ∙ ap (λ n. input_step routes slot n (moves_from routes slot (i + 1) count (input_step routes slot i m))) same

  still_works : (m : AtWork) → Works routes slot m → (i : InputNumber) → i ≤ INPUTS → Works routes slot (moves_from routes slot 0 i m)
  unfolding moves_from
  still_works m works zero low = works
  still_works m works (suc i) low =
      let same : i ≡ 0 + i = omega arith in
      subst (Works routes slot) (ap (λ n. input_step routes slot n (moves_from routes slot 0 i m)) same ∙ sym (one_more 0 i m)) (keeps routes slot i (moves_from routes slot 0 i m) (omega (arith, low)) (still_works m works i (omega (arith, low)))).works

  pub all_step : (m : AtWork) → Works routes slot m → (i : InputNumber) → i < INPUTS → StepsOf routes slot m i
  all_step m works i low = keeps routes slot i (moves_from routes slot 0 i m) low (still_works m works i (omega (arith, low)))

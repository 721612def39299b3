-- The wave of a run is a wave.
use Rattle.std.proofs.Common.{◌≡◌, ◌≢◌, zero, suc, ◌+◌, ◌*◌, ◌<◌, List, [], ◌∷◌, length, map, refl, sym, ap, ◌∙◌, subst, arith, inl, add-one}
use Rattle.std.specs.List.{AllByRecursion}
use Rattle.xs_base.specs.Numbers.{Slot}
use Rattle.sys_plan.specs.declared.NodePlan.{NodePlan}
use Rattle.sys_plan.specs.Plan.{PlanRec, IsPlan, node_numbers, numbers_from}
use Rattle.serial_model.specs.Serial.{serial}
use Rattle.wave_model.specs.declared.change.WaveChange.{WaveChange}
use Rattle.wave_model.specs.Reads.{count_of_pins}
use Rattle.wave_model.specs.Runs.{wave_of_run, changes_in, changes_before}
use Rattle.wave_model.specs.Form.{IsChange, AreInOrder, first_pins, pin_of_change}
use Rattle.level_laws.specs.Laws.{RunsAreWaves}
use Rattle.level_laws.proofs.Lists.{both_all, both_hold, all_weaker, all_from_each}
use Rattle.level_laws.proofs.Nodes.{nodes_count, numbers_count, no_node}
use Rattle.level_laws.proofs.Shown.{levels_many}
use Rattle.level_laws.proofs.Changes.{IsIn, FitsPin, HasLevels, in_nodes, nodes_fit}
use Rattle.level_laws.proofs.Fit.{all_have_levels}
use Rattle.level_laws.proofs.Order.{joined, nodes_in_order}
use Rattle.level_laws.proofs.First.{AreMany, pins_of_nodes, first_changes}

numbers_below : (nodes : List NodePlan) → AllByRecursion (λ (node : NodePlan). node.number < 100) nodes
    → AllByRecursion (λ number. number < 100) (map (λ (node : NodePlan). node.number) nodes)
numbers_below [] h = tt
numbers_below (node ∷ nodes) h = (h.0, numbers_below nodes h.1)

module _ (plan : PlanRec) where
  -- before every slot each node has 29 levels
  many : (slot : Slot) → AreMany (serial plan slot).nodes
  many slot =
      all_from_each (λ rec. length rec.levels ≡ 29) no_node (serial plan slot).nodes (λ n within. levels_many plan slot n (omega (arith, within, nodes_count plan slot)))

  first_are_all : (slots : Slot) → first_pins (wave_of_run plan (suc slots)) ≡ numbers_from 0 (count_of_pins (wave_of_run plan (suc slots)))
  first_are_all slots =
      let after = serial plan (0 + 1) in
      let count : 29 * length after.nodes ≡ 29 * length (node_numbers plan) = ap (λ k. 29 * k) (nodes_count plan (0 + 1) ∙ sym (numbers_count plan)) in
      ap (map pin_of_change) (first_changes plan slots)
      ∙ pins_of_nodes 0 (serial plan 0).nodes after.nodes (nodes_count plan 0 ∙ sym (nodes_count plan (0 + 1))) (many 0) (many (0 + 1))
      ∙ ap (numbers_from 0) count

  module _ (is : IsPlan plan) where
    abbrev Change : Slot → WaveChange → Type 0
    Change slots = IsChange (wave_of_run plan slots)

    have_levels : (slot : Slot) → AllByRecursion HasLevels (serial plan (slot + 1)).nodes
    have_levels slot = subst (λ next. AllByRecursion HasLevels (serial plan next).nodes) (sym (add-one slot)) (all_have_levels plan is slot)

    changes_of_slot : (slot : Slot) → AllByRecursion (Change (suc slot)) (changes_in plan slot)
    changes_of_slot slot =
        let before = (serial plan slot).nodes in
        let after = (serial plan (slot + 1)).nodes in
        let both = both_hold (IsIn slot 0 (0 + length after)) FitsPin (changes_in plan slot) (in_nodes slot 0 before after) (nodes_fit slot 0 before after (have_levels slot)) in
        all_weaker (λ change. IsIn slot 0 (0 + length after) change × FitsPin change) (Change (suc slot))
        (λ change h. record {
          node = omega (arith, h.0.to, nodes_count plan (slot + 1), numbers_count plan);
          port = h.1.port;
          slot = omega (arith, h.0.slot);
          value = h.1.value;
        }) (changes_in plan slot) both

    changes_are : (slots : Slot) → AllByRecursion (Change slots) (changes_before plan slots)
    unfolding changes_before
    changes_are zero = tt
    changes_are (suc slot) =
        both_all (Change (suc slot)) (changes_before plan slot) (changes_in plan slot)
        (all_weaker (Change slot) (Change (suc slot)) (λ change h. record { node = h.node; port = h.port; slot = omega (arith, h.slot); value = h.value })
        (changes_before plan slot) (changes_are slot))
        (changes_of_slot slot)

    in_order : (slots : Slot) → AreInOrder (changes_before plan slots)
    unfolding changes_before
    in_order zero = tt
    in_order (suc slot) =
        let before = (serial plan slot).nodes in
        let after = (serial plan (slot + 1)).nodes in
        joined (Change slot) (IsIn slot 0 (0 + length after))
        (λ earlier change h is. inl (omega (arith, h.slot, is.slot)))
        (changes_before plan slot) (changes_in plan slot)
        (changes_are slot) (in_nodes slot 0 before after)
        (in_order slot) (nodes_in_order slot 0 before after (have_levels slot))

  firsts : (slots : Slot) → slots ≢ 0 → first_pins (wave_of_run plan slots) ≡ numbers_from 0 (count_of_pins (wave_of_run plan slots))
  firsts zero some = absurd (some refl)
  firsts (suc slots) some = first_are_all slots

pub runs_are_waves : RunsAreWaves
runs_are_waves plan slots is few = record {
  few_nodes = omega (arith, numbers_count plan, is.few_nodes);
  numbers = numbers_below plan.nodes is.numbers;
  ascending = is.order;
  last = few;
  changes = changes_are plan is slots;
  in_order = in_order plan is slots;
  first = firsts plan slots;
}

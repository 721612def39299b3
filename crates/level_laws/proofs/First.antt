-- In slot 0 all pins change, in their order.
use Rattle.std.proofs.Common.{◌≡◌, ℕ, zero, suc, ◌+◌, ◌*◌, Bool, true, false, eqb, List, [], ◌∷◌, ◌++◌, length, map, filter, refl, sym, ap, ◌∙◌, arith}
use Rattle.std.specs.List.{AllByRecursion}
use Rattle.std.proofs.lemmas.Bool.{eq-eqb, ne_eqb}
use Rattle.std.proofs.lemmas.List.{map-append, append-nil}
use Rattle.std.proofs.lemmas.List.Elements.{filter-append}
use Rattle.xs_base.specs.Numbers.{Slot, Word, Position, PortNumber}
use Rattle.xs_model.specs.Record.{NodeRec}
use Rattle.sys_plan.specs.Plan.{PlanRec, numbers_from}
use Rattle.serial_model.specs.Serial.{serial}
use Rattle.wave_model.specs.declared.change.WaveChange.{WaveChange}
use Rattle.wave_model.specs.Runs.{port_changes, node_changes, changes_in, changes_before}
use Rattle.wave_model.specs.Form.{pin_of_change}
use Rattle.level_laws.proofs.Lists.{all_weaker, filter_all, filter_none}
use Rattle.level_laws.proofs.Changes.{IsIn, in_nodes}

numbers_on : (n count more : ℕ) → numbers_from n (count + more) ≡ numbers_from n count ++ numbers_from (n + count) more
numbers_on n zero more = (λ i. numbers_from (here i) (none i))
  where
    here : n ≡ n + 0
    here = omega arith

    none : 0 + more ≡ more
    none = omega arith
numbers_on n (suc count) more =
    let one : suc count + more ≡ suc (count + more) = omega arith in
    let next : n + 1 + count ≡ n + suc count = omega arith in
    ap (numbers_from n) one ∙ ap (λ ns. n ∷ ns) (numbers_on (n + 1) count more ∙ ap (λ m. numbers_from (n + 1) count ++ numbers_from m more) next)

-- of a node that had as many levels
pins_of_node : (node : Position) (port : PortNumber) (before after : List Word) → length before ≡ length after
    → map pin_of_change (port_changes 0 node port before after) ≡ numbers_from (29 * node + port) (length after)
pins_of_node node port [] [] e = refl
pins_of_node node port [] (now ∷ after) e = absurd (omega (arith, e))
pins_of_node node port (level ∷ before) [] e = absurd (omega (arith, e))
pins_of_node node port (level ∷ before) (now ∷ after) e =
    let next : 29 * node + (port + 1) ≡ 29 * node + port + 1 = omega arith in
    ap (λ ns. (29 * node + port) ∷ ns) (pins_of_node node (port + 1) before after (omega (arith, e)) ∙ ap (λ m. numbers_from m (length after)) next)

abbrev pub AreMany : List NodeRec → Type 0
AreMany nodes = AllByRecursion (λ (rec : NodeRec). length rec.levels ≡ 29) nodes

pub pins_of_nodes : (node : Position) (before after : List NodeRec) → length before ≡ length after → AreMany before → AreMany after
    → map pin_of_change (node_changes 0 node before after) ≡ numbers_from (29 * node) (29 * length after)
pins_of_nodes node [] [] e many_before many = refl
pins_of_nodes node [] (now ∷ after) e many_before many = absurd (omega (arith, e))
pins_of_nodes node (rec ∷ before) [] e many_before many = absurd (omega (arith, e))
pins_of_nodes node (rec ∷ before) (now ∷ after) e many_before many =
    let at_first : 29 * node + 0 ≡ 29 * node = omega arith in
    let next : 29 * (node + 1) ≡ 29 * node + 29 = omega arith in
    let all : 29 + 29 * length after ≡ 29 * suc (length after) = omega arith in
    map-append pin_of_change (port_changes 0 node 0 rec.levels now.levels) (node_changes 0 (node + 1) before after)
    ∙ ap (λ ns. ns ++ map pin_of_change (node_changes 0 (node + 1) before after))
    (pins_of_node node 0 rec.levels now.levels (many_before.0 ∙ sym many.0) ∙ (λ i. numbers_from (at_first i) (many.0 i)))
    ∙ ap (λ ns. numbers_from (29 * node) 29 ++ ns)
    (pins_of_nodes (node + 1) before after (omega (arith, e)) many_before.1 many.1 ∙ ap (λ m. numbers_from m (29 * length after)) next)
    ∙ sym (numbers_on (29 * node) 29 (29 * length after))
    ∙ ap (numbers_from (29 * node)) all

-- ---- The run

abbrev is_first : WaveChange → Bool
is_first change = eqb change.slot 0

module _ (plan : PlanRec) where
  of_later : (t : Slot) → filter is_first (changes_in plan (suc t)) ≡ []
  of_later t =
      let after = (serial plan (suc t + 1)).nodes in
      filter_none is_first (changes_in plan (suc t))
      (all_weaker (IsIn (suc t) 0 (0 + length after)) (λ change. is_first change ≡ false) (λ change is. ne_eqb change.slot 0 (λ same. omega (arith, same, is.slot)))
      (changes_in plan (suc t)) (in_nodes (suc t) 0 (serial plan (suc t)).nodes after))

  of_first : filter is_first (changes_in plan 0) ≡ changes_in plan 0
  of_first =
      let after = (serial plan (0 + 1)).nodes in
      filter_all is_first (changes_in plan 0)
      (all_weaker (IsIn 0 0 (0 + length after)) (λ change. is_first change ≡ true) (λ change is. eq-eqb change.slot 0 is.slot)
      (changes_in plan 0) (in_nodes 0 0 (serial plan 0).nodes after))

  pub first_changes : (slots : Slot) → filter is_first (changes_before plan (suc slots)) ≡ changes_in plan 0
  unfolding changes_before
  first_changes zero = of_first
  first_changes (suc t) =
      filter-append is_first (changes_before plan (suc t)) (changes_in plan (suc t))
      ∙ (λ i. first_changes t i ++ of_later t i)
      ∙ append-nil (changes_in plan 0)

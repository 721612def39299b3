-- What is read back of the wave of a run: of every pin and at every slot, the level at the end of that slot.
use Rattle.std.proofs.Common.{◌≡◌, ℕ, zero, suc, ◌+◌, ◌<◌, ◌≤◌, List, ◌++◌, length, get_or, replicate, refl, sym, ap, ◌∙◌, arith, inl, inr, add-one}
use mathlib.Core.Logic.{◌⊎◌}
use Rattle.std.proofs.lemmas.Bool.{cases_lt}
use Rattle.xs_base.specs.Numbers.{Slot, Word, Position, PortNumber}
use Rattle.sys_plan.specs.Plan.{PlanRec, IsPlan, node_numbers}
use Rattle.serial_model.specs.Serial.{serial}
use Rattle.wave_model.specs.declared.change.WaveChange.{WaveChange}
use Rattle.wave_model.specs.Runs.{changes_in, changes_before, level_after}
use Rattle.level_laws.specs.Laws.{WavesTellLevels}
use Rattle.level_laws.proofs.Lists.{all_weaker}
use Rattle.level_laws.proofs.Nodes.{nodes_count, numbers_count, first_levels}
use Rattle.level_laws.proofs.Shown.{levels_many}
use Rattle.level_laws.proofs.Changes.{IsIn, in_nodes}
use Rattle.level_laws.proofs.Reading.{IsElse, left_at, left_on, left_as_is}
use Rattle.level_laws.proofs.OneSlot.{by_nodes}

same_at : {X : Type 0} (x : X) (count k : ℕ) → get_or (replicate count x) k x ≡ x
same_at x zero k = refl
same_at x (suc count) zero = refl
same_at x (suc count) (suc k) = same_at x count k

module _ (plan : PlanRec) (is : IsPlan plan) (n : Position) (n_in : n < length plan.nodes) (port : PortNumber) (port_in : port < 29) (slot : Slot) where
  within : n < length (node_numbers plan)
  within = omega (arith, n_in, numbers_count plan)

  abbrev read : Word → List WaveChange → Word
  read = left_at (node_numbers plan) is.order n within port slot

  read_on : (value : Word) (changes more : List WaveChange) → read value (changes ++ more) ≡ read (read value changes) more
  read_on = left_on (node_numbers plan) is.order n within port slot

  in_slot : (t : Slot) → t ≤ slot → read (level_after plan t n port) (changes_in plan t) ≡ level_after plan (t + 1) n port
  in_slot t by_now =
      by_nodes (node_numbers plan) is.order n within port slot t by_now 0 n (serial plan t).nodes (serial plan (t + 1)).nodes (omega arith)
      (nodes_count plan t ∙ sym (nodes_count plan (t + 1)))
      (omega (arith, nodes_count plan (t + 1), n_in))
      (omega (arith, nodes_count plan (t + 1), numbers_count plan))
      (levels_many plan t n n_in) (levels_many plan (t + 1) n n_in) port_in

  -- the changes of a later slot
  after_it : (t : Slot) → slot < t → (value : Word) → read value (changes_in plan t) ≡ value
  after_it t later value =
      let after = (serial plan (t + 1)).nodes in
      left_as_is (node_numbers plan) is.order n within port slot value (changes_in plan t)
      (all_weaker (IsIn t 0 (0 + length after)) (IsElse (node_numbers plan) is.order n within port slot)
      (λ change of. (omega (arith, of.to, nodes_count plan (t + 1), numbers_count plan), inr (inr (omega (arith, of.slot, later)))))
      (changes_in plan t) (in_nodes t 0 (serial plan t).nodes after))

  up_to : (slots : Slot) → slots ≤ suc slot → read 0 (changes_before plan slots) ≡ level_after plan slots n port
  unfolding changes_before
  up_to zero le = sym (ap (λ levels. get_or levels port 0) (first_levels plan n) ∙ same_at 0 29 port)
  up_to (suc t) le =
      read_on 0 (changes_before plan t) (changes_in plan t)
      ∙ ap (λ v. read v (changes_in plan t)) (up_to t (omega (arith, le)))
      ∙ in_slot t (omega (arith, le))
      ∙ ap (λ next. level_after plan next n port) (add-one t)

  from_then : (slots : Slot) → suc slot ≤ slots → read 0 (changes_before plan slots) ≡ level_after plan (suc slot) n port
  unfolding changes_before
  from_then zero ge = absurd (omega (arith, ge))
  from_then (suc t) ge = by_case (from_then t) (cases_lt t (suc slot))
    where
      by_case : (suc slot ≤ t → read 0 (changes_before plan t) ≡ level_after plan (suc slot) n port) → (t < suc slot) ⊎ (suc slot ≤ t)
          → read 0 (changes_before plan (suc t)) ≡ level_after plan (suc slot) n port
      by_case before (inl last) = up_to (suc t) (omega (arith, last)) ∙ ap (λ next. level_after plan next n port) (omega (arith, last, ge))
      by_case before (inr past) =
          read_on 0 (changes_before plan t) (changes_in plan t)
          ∙ after_it t (omega (arith, past)) (read 0 (changes_before plan t))
          ∙ before past

pub waves_tell_levels : WavesTellLevels
waves_tell_levels plan slots slot n port is n_in port_in slot_in =
    from_then plan is n n_in port port_in slot slots (omega (arith, slot_in)) ∙ ap (λ next. level_after plan next n port) (sym (add-one slot))

-- What the pins of a node show from outside fits them.
use Rattle.std.proofs.Common.{◌≡◌, ℕ, zero, suc, ◌+◌, ◌<◌, ◌^◌, leb, Option, Some, None, List, [], ◌∷◌, map, slice_index, refl, sym, subst, inl, inr}
use mathlib.Core.Logic.{◌⊎◌}
use Rattle.std.specs.List.{AllByRecursion, range_with_len}
use Rattle.std.proofs.lemmas.Nat.{pow_pos}
use Rattle.xs_base.specs.Numbers.{Slot, Word, PortNumber}
use Rattle.xs_base.specs.Ids.{port_width}
use Rattle.xs_base.specs.declared.entry.Entry.{Entry}
use Rattle.xs_base.specs.declared.entry.What.{What}
use Rattle.xs_base.specs.declared.entry.What.TheVariants as what
use Rattle.xs_model.specs.Outside.{LevelsFitFrom}
use Rattle.pin_scripts.specs.Script.{pin_at}
use Rattle.pin_scripts.proofs.Views.{levels-fit}
use Rattle.sys_plan.specs.Plan.{PlanRec, IsPlan, wire_to, delay_of, node_numbers}
use Rattle.serial_model.specs.Serial.{serial, level_or, level_after, wire_level, pin_level}
use Rattle.locality_laws.specs.Locality.{history_in}
use Rattle.locality_laws.specs.Levels.{IsLevelOf, ShownLevelsFit}
use Rattle.locality_laws.proofs.Links.{histories_are_whole}
use Rattle.locality_laws.proofs.Levels.{kept_all, wires_carry_levels}
use Rattle.locality_laws.proofs.Ends.{comes_to_it}

module _ (port : PortNumber) where
  abbrev Fits : Word → Type 0
  Fits level = level < 2 ^ port_width port

  or_fits : (w : What) (before : Word) → IsLevelOf port w → Fits (level_or w before)
  or_fits (what.Token t) before h = absurd h
  or_fits what.Credit before h = absurd h
  or_fits (what.Level level) before h = h

  -- the last of some levels fits, and what is shown where there is none
  pub last_fits : (level : Word) (es : List Entry) → Fits level → AllByRecursion (λ (e : Entry). IsLevelOf port e.what) es → Fits (level_after level es)
  last_fits level [] fits all = fits
  last_fits level (e ∷ es) fits all = last_fits (level_or e.what level) es (or_fits e.what level all.0) all.1

module _ (plan : PlanRec) (is : IsPlan plan) (n : ℕ) (slot : Slot) where
  wire_fits : (port wire : ℕ) → wire_to plan n port ≡ Some wire → Fits port (wire_level slot (delay_of plan wire) (history_in (serial plan slot).histories wire))
  wire_fits port wire h =
      let w = comes_to_it plan n port wire h in
      let all = subst (λ (es : List Entry). AllByRecursion (λ (e : Entry). IsLevelOf w.joined.to_port e.what) es) (histories_are_whole plan wire slot) (wires_carry_levels plan wire w.arc w.joined 0 slot is w.here w.joins) in
      let own = subst (λ p. AllByRecursion (λ (e : Entry). IsLevelOf p e.what) (history_in (serial plan slot).histories wire)) w.to_port all in
      last_fits port 0 _ (pow_pos (port_width port))
      (kept_all (λ (e : Entry). IsLevelOf port e.what) (λ (e : Entry). leb (e.slot + delay_of plan wire) slot) (history_in (serial plan slot).histories wire) own)

  abbrev scripted : PortNumber → Word
  scripted port = pin_at plan.script (slice_index (node_numbers plan) n) port slot

  abbrev shown : PortNumber → Word
  shown port = pin_level plan (serial plan slot).histories n slot port (wire_to plan n port)

  -- a pin shows what the script says, or the level of a wire
  by_wire : (port : ℕ) (wire : Option ℕ) → wire_to plan n port ≡ wire → (pin_level plan (serial plan slot).histories n slot port wire ≡ scripted port) ⊎ Fits port (pin_level plan (serial plan slot).histories n slot port wire)
  by_wire port None h = inl refl
  by_wire port (Some wire) h = inr (wire_fits port wire h)

  all_fit : (start count : ℕ) → LevelsFitFrom start (map scripted (range_with_len start count)) → LevelsFitFrom start (map shown (range_with_len start count))
  all_fit start zero h = tt
  all_fit start (suc count) h = (one (by_wire start (wire_to plan n start) refl), all_fit (start + 1) count h.1)
    where
      one : (shown start ≡ scripted start) ⊎ Fits start (shown start) → Fits start (shown start)
      one (inl same) = subst (Fits start) (sym same) h.0
      one (inr fits) = fits

pub shown_levels_fit : ShownLevelsFit
shown_levels_fit plan n slot is = all_fit plan is n slot 0 29 (levels-fit plan.script (slice_index (node_numbers plan) n) slot is.script)

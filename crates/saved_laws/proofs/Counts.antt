-- How much is sent in so many slots, and which level a wire has come to.
use Rattle.std.proofs.Common.{◌≡◌, ℕ, zero, suc, ◌*◌, ◌<◌, ◌≤◌, ◌^◌, Bool, Some, List, [], ◌∷◌, length, filter, slice_get, subst, arith, length-append}
use Rattle.std.specs.List.{AllByRecursion}
use Rattle.std.proofs.lemmas.Nat.{pow_pos}
use Rattle.std.proofs.lemmas.List.Sums.{length-filter, count_by-le-length}
use Rattle.xs_base.specs.Ids.{port_width}
use Rattle.xs_base.specs.Numbers.{Slot, Word}
use Rattle.xs_base.specs.declared.entry.Entry.{Entry}
use Rattle.xs_base.specs.declared.entry.What.{What}
use Rattle.xs_base.specs.declared.entry.What.TheVariants as what
use Rattle.sys_plan.specs.Plan.{PlanRec, Arc, Joined, IsPlan, arcs}
use Rattle.serial_model.specs.Serial.{level_or, level_after}
use Rattle.locality_laws.specs.Levels.{IsLevelOf}
use Rattle.locality_laws.proofs.Serial.{upto, upto_none, new_in, goes_on}
use Rattle.locality_laws.proofs.Levels.{kept_all, wires_carry_levels}
use Rattle.locality_laws.proofs.Links.{carried_in, slots_carry_few, histories_are_whole}

-- ---- At most two entries a slot

new_few : (plan : PlanRec) (l : ℕ) (slot : Slot) → length (new_in plan l slot) ≤ 2
new_few plan l slot = subst (λ (es : List Entry). length es ≤ 2) (carried_in plan l slot) (slots_carry_few plan l slot).few

pub upto_few : (plan : PlanRec) (l : ℕ) (slot : Slot) → length (upto plan l slot) ≤ 2 * slot
upto_few plan l zero = rw (upto_none plan l) (omega arith)
upto_few plan l (suc slot) =
    let all = length-append (upto plan l slot) (new_in plan l slot) in
    rw (goes_on plan l slot) (omega (arith, all, upto_few plan l slot, new_few plan l slot))

-- a test lets no more through than there are
pub filter_few : (p : Entry → Bool) (es : List Entry) → length (filter p es) ≤ length es
filter_few p es = omega (arith, length-filter p es, count_by-le-length p es)

-- ---- Levels

module _ (port : ℕ) where
  abbrev Fits : Word → Type 0
  Fits level = level < 2 ^ port_width port

  one_fits : (w : What) (level : Word) → IsLevelOf port w → Fits (level_or w level)
  one_fits (what.Token t) level h = absurd h
  one_fits what.Credit level h = absurd h
  one_fits (what.Level n) level h = h

  level_fits : (level : Word) (es : List Entry) → Fits level → AllByRecursion (λ (e : Entry). IsLevelOf port e.what) es → Fits (level_after level es)
  level_fits level [] h all = h
  level_fits level (e ∷ es) h all = level_fits (level_or e.what level) es (one_fits e.what level all.0) all.1

-- what a wire leaves of those levels that a test lets through
pub left_fits : (plan : PlanRec) (l : ℕ) (d : Arc) (joined : Joined) → IsPlan plan → slice_get (arcs plan) l ≡ Some d → d.joins ≡ Some joined → (slot : Slot) (p : Entry → Bool)
    → level_after 0 (filter p (upto plan l slot)) < 2 ^ port_width joined.to_port
left_fits plan l d joined is here joins slot p =
    let IsLevel : Entry → Type 0 = λ (e : Entry). IsLevelOf joined.to_port e.what in
    let all = subst (AllByRecursion IsLevel) (histories_are_whole plan l slot) (wires_carry_levels plan l d joined 0 slot is here joins) in
    level_fits joined.to_port 0 (filter p (upto plan l slot)) (pow_pos (port_width joined.to_port)) (kept_all IsLevel p (upto plan l slot) all)

-- Entries that stand in order: those of a history do, and so do those that a test lets through.
use Rattle.std.proofs.Common.{◌≡◌, ℕ, zero, suc, ◌<◌, eqb, cond, Bool, true, false, Option, Some, None, List, [], ◌∷◌, ◌++◌, map, filter, slice_get, slice_index_or, refl, sym, ap, ◌∙◌, arith, inl, inr}
use mathlib.Core.Logic.{◌⊎◌}
use Rattle.std.specs.List.{AllByRecursion}
use Rattle.std.proofs.lemmas.Bool.{cases_Bool}
use Rattle.std.proofs.lemmas.Option.{none-some, same_Some}
use Rattle.xs_base.specs.Numbers.{Slot}
use Rattle.xs_base.specs.declared.token.Token.{Token}
use Rattle.xs_base.specs.declared.entry.Entry.{Entry}
use Rattle.xs_base.specs.declared.entry.What.TheVariants as what
use Rattle.xs_model.specs.Record.{NodeRec}
use Rattle.xs_model.specs.Outside.{Emitted}
use Rattle.sys_plan.specs.Plan.{PlanRec, Arc, Joined, arcs}
use Rattle.step_model.specs.Step.{Stepped}
use Rattle.serial_model.specs.Serial.{history, serial, steps_of, node_by, emitted_by, token_entries, credit_entries, driven_level, level_entries, carried_by, is_sent_within}
use Rattle.snap_parts.specs.InFlight.{ComesBefore, IsEarlier, StandSo}
use Rattle.locality_laws.proofs.Entries.{both_all, all_weaker}
use Rattle.locality_laws.proofs.Serial.{upto, upto_none, added, new_in, new_are_in, goes_on, sent_before}
use Rattle.locality_laws.proofs.Levels.{kept_all}

-- ---- Lists

module _ (so : Entry → Entry → Type 0) where
  kept_stand : (p : Entry → Bool) (xs : List Entry) → StandSo so xs → StandSo so (filter p xs)
  kept_stand p [] h = tt
  kept_stand p (x ∷ xs) h = by_test (kept_all (so x) p xs h.0) (kept_stand p xs h.1) (cases_Bool (p x))
    where
      by_test : AllByRecursion (so x) (filter p xs) → StandSo so (filter p xs) → (p x ≡ true) ⊎ (p x ≡ false) → StandSo so (filter p (x ∷ xs))
      by_test first rest (inl passes) = rw passes (first, rest)
      by_test first rest (inr stopped) = rw stopped rest

  both_stand : (xs ys : List Entry) → StandSo so xs → StandSo so ys → AllByRecursion (λ (e : Entry). AllByRecursion (so e) ys) xs → StandSo so (xs ++ ys)
  both_stand [] ys h k all = k
  both_stand (x ∷ xs) ys h k all = (both_all (so x) xs ys h.0 all.0, both_stand xs ys h.1 k all.1)

-- ---- Histories: what is sent in a later slot stands after what was sent before

module _ (so : Entry → Entry → Type 0) (later : (e f : Entry) → e.slot < f.slot → so e f) (plan : PlanRec) (l : ℕ) (new : (slot : Slot) → StandSo so (new_in plan l slot)) where
  after_all : (slot : Slot) → AllByRecursion (λ (e : Entry). AllByRecursion (so e) (new_in plan l slot)) (upto plan l slot)
  after_all slot =
      all_weaker (λ (e : Entry). e.slot < slot) (λ (e : Entry). AllByRecursion (so e) (new_in plan l slot))
      (λ e h. all_weaker (λ (f : Entry). f.slot ≡ slot) (so e) (λ f k. later e f (omega (arith, h, k))) (new_in plan l slot) (new_are_in plan l slot))
      (upto plan l slot) (sent_before plan l slot)

  upto_stands : (slot : Slot) → StandSo so (upto plan l slot)
  upto_stands zero = rw (upto_none plan l) tt
  upto_stands (suc slot) = rw (goes_on plan l slot) (both_stand so (upto plan l slot) (new_in plan l slot) (upto_stands slot) (new slot) (after_all slot))

  history_stands : (from to : Slot) → StandSo so (history plan l from to)
  history_stands from to = kept_stand so (is_sent_within from to) (upto plan l to) (upto_stands to)

-- ---- Links

link_sends : (slot : Slot) (token : Option Token) (credit : Bool) → StandSo ComesBefore (token_entries slot token ++ credit_entries slot credit)
link_sends slot None false = tt
link_sends slot None true = (tt, tt)
link_sends slot (Some t) false = (tt, tt)
link_sends slot (Some t) true = ((inr (refl, refl, refl), tt), (tt, tt))

link_carries : (slot : Slot) (before after : NodeRec) (emitted : Emitted) (end : ℕ) (joins : Option Joined) → joins ≡ None → StandSo ComesBefore (carried_by slot before after emitted end joins)
link_carries slot before after emitted end (Some joined) h = absurd (none-some joined (sym h))
link_carries slot before after emitted end None h = link_sends slot (slice_index_or emitted.tokens end None) (slice_index_or emitted.credits end false)

link_adds : (slot : Slot) (nodes : List NodeRec) (steps : List Stepped) (arc : Option Arc) (d : Arc) → arc ≡ Some d → d.joins ≡ None → StandSo ComesBefore (added slot nodes steps arc)
link_adds slot nodes steps None d h none = tt
link_adds slot nodes steps (Some x) d h none =
    link_carries slot (node_by nodes x.from) (node_by (map (λ (s : Stepped). s.rec) steps) x.from) (emitted_by steps x.from) x.from_end x.joins
    (ap (λ (d : Arc). d.joins) (same_Some x d h) ∙ none)

pub link_stands : (plan : PlanRec) (l : ℕ) (d : Arc) → slice_get (arcs plan) l ≡ Some d → d.joins ≡ None → (from to : Slot) → StandSo ComesBefore (history plan l from to)
link_stands plan l d here none from to =
    history_stands ComesBefore (λ e f h. inl h) plan l
    (λ slot. link_adds slot (serial plan slot).nodes (steps_of plan slot (serial plan slot)) (slice_get (arcs plan) l) d here none) from to

-- ---- Wires

wire_tells : (slot before after : ℕ) → StandSo IsEarlier (level_entries slot before after)
wire_tells slot before after = by_same (eqb after before)
  where
    by_same : (same : Bool) → StandSo IsEarlier (cond same [] (record { slot = slot; what = what.Level after } ∷ []))
    by_same true = tt
    by_same false = (tt, tt)

wire_carries : (slot : Slot) (before after : NodeRec) (emitted : Emitted) (end : ℕ) (joins : Option Joined) (joined : Joined) → joins ≡ Some joined
    → StandSo IsEarlier (carried_by slot before after emitted end joins)
wire_carries slot before after emitted end None joined h = absurd (none-some joined h)
wire_carries slot before after emitted end (Some x) joined h = wire_tells slot (driven_level before x.from_port) (driven_level after x.from_port)

wire_adds : (slot : Slot) (nodes : List NodeRec) (steps : List Stepped) (arc : Option Arc) (d : Arc) (joined : Joined) → arc ≡ Some d → d.joins ≡ Some joined
    → StandSo IsEarlier (added slot nodes steps arc)
wire_adds slot nodes steps None d joined h some = tt
wire_adds slot nodes steps (Some x) d joined h some =
    wire_carries slot (node_by nodes x.from) (node_by (map (λ (s : Stepped). s.rec) steps) x.from) (emitted_by steps x.from) x.from_end x.joins joined
    (ap (λ (d : Arc). d.joins) (same_Some x d h) ∙ some)

pub wire_stands : (plan : PlanRec) (l : ℕ) (d : Arc) (joined : Joined) → slice_get (arcs plan) l ≡ Some d → d.joins ≡ Some joined → (from to : Slot)
    → StandSo IsEarlier (history plan l from to)
wire_stands plan l d joined here some from to =
    history_stands IsEarlier (λ e f h. h) plan l
    (λ slot. wire_adds slot (serial plan slot).nodes (steps_of plan slot (serial plan slot)) (slice_get (arcs plan) l) d joined here some) from to

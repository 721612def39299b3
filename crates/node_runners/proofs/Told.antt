-- The wires that leave a node, of which one is changed.
use Rattle.std.proofs.Common.{◌≡◌, ℕ, ◌+◌, ◌<◌, ◌≤◌, List, length, refl, sym, ap, ◌∙◌, subst, arith, inl, inr}
use Rattle.std.specs.Prelude.{slice_set}
use Rattle.std.proofs.lemmas.Bool.{cases_eq}
use Rattle.std.proofs.lemmas.List.{get_or-set_same, get_or-set_other}
use Rattle.xs_base.specs.Numbers.{Slot}
use Rattle.xs_model.specs.Record.{CoreRec}
use Rattle.node_runners.specs.Sent.{WireOutRec, no_wire_out, wire_out, SameWire, TellsWire}

abbrev pub SameWires : List WireOutRec → List WireOutRec → Type 0
SameWires old now = (k : ℕ) → SameWire (wire_out old k) (wire_out now k)

abbrev pub LevelRoomBelow : ℕ → List WireOutRec → Type 0
LevelRoomBelow i now = (k : ℕ) → k < i → 1 ≤ (wire_out now k).batch.spare

abbrev pub ToldBelow : Slot → CoreRec → ℕ → List WireOutRec → List WireOutRec → Type 0
ToldBelow slot core i old now = (k : ℕ) → k < i → TellsWire slot core (wire_out old k) (wire_out now k)

abbrev pub SameWiresFrom : ℕ → List WireOutRec → List WireOutRec → Type 0
SameWiresFrom i old now = (k : ℕ) → i ≤ k → wire_out now k ≡ wire_out old k

pub same-wire : (w : WireOutRec) → SameWire w w
same-wire w = record { port = refl; sent = refl; entries = refl }

pub same-on : (a b c : WireOutRec) → SameWire a b → SameWire b c → SameWire a c
same-on a b c h k = record { port = k.port ∙ h.port; sent = k.sent ∙ h.sent; entries = k.entries ∙ h.entries }

module _ (now old : List WireOutRec) (i : ℕ) (w : WireOutRec) (within : i < length now) where
  abbrev changed : List WireOutRec
  changed = slice_set now i w

  pub here : wire_out changed i ≡ w
  here = get_or-set_same now i w no_wire_out within

  pub there : (k : ℕ) → (k ≡ i → ⊥) → wire_out changed k ≡ wire_out now k
  there k ne = get_or-set_other now i k w no_wire_out ne

  pub same-more : SameWires old now → SameWire (wire_out now i) w → SameWires old changed
  same-more same s k = elim (cases_eq k i) [
    | inl at ↦ subst (λ j. SameWire (wire_out old j) (wire_out changed j)) (sym at) (subst (SameWire (wire_out old i)) (sym here) (same-on (wire_out old i) (wire_out now i) w (same i) s))
    | inr ne ↦ subst (SameWire (wire_out old k)) (sym (there k ne)) (same k)
  ]

  pub room-more : LevelRoomBelow i now → 1 ≤ w.batch.spare → LevelRoomBelow (i + 1) changed
  room-more room r k less = elim (cases_eq k i) [
    | inl at ↦ subst (λ (x : WireOutRec). 1 ≤ x.batch.spare) (sym (ap (wire_out changed) at ∙ here)) r
    | inr ne ↦ subst (λ (x : WireOutRec). 1 ≤ x.batch.spare) (sym (there k ne)) (room k (omega (arith, less, ne)))
  ]

  pub told-more : (slot : Slot) (core : CoreRec) → ToldBelow slot core i old now → TellsWire slot core (wire_out old i) w → ToldBelow slot core (i + 1) old changed
  told-more slot core told t k less = elim (cases_eq k i) [
    | inl at ↦ subst (λ j. TellsWire slot core (wire_out old j) (wire_out changed j)) (sym at) (subst (TellsWire slot core (wire_out old i)) (sym here) t)
    | inr ne ↦ subst (TellsWire slot core (wire_out old k)) (sym (there k ne)) (told k (omega (arith, less, ne)))
  ]

  pub from-more : SameWiresFrom i old now → SameWiresFrom (i + 1) old changed
  from-more same k on = there k (λ at. omega (arith, on, at)) ∙ same k (omega (arith, on))

-- What happens in a slot, as what it tells of one port.
use Rattle.std.proofs.Common.{◌≡◌, ◌≢◌, ◌≤◌, Bool, if◌then◌else◌, Option, Some, None, List, [], ◌∷◌, ◌++◌, length, map, refl, sym, ap, subst, ◌∙◌, arith}
use Rattle.std.proofs.lemmas.Bool.{eq-eqb, ne_eqb}
use Rattle.std.specs.List.{AllByRecursion}
use Rattle.xs_base.specs.Numbers.{Slot, Word, PortNumber}
use Rattle.xs_model.specs.declared.event.Happen.{Happen}
use Rattle.xs_model.specs.declared.event.Happen.TheVariants as happen
use Rattle.xs_model.specs.declared.pins.PinChange.{PinChange}
use Rattle.xs_model.specs.declared.pins.PinChange.TheVariants.{Drive, Float}
use Rattle.xs_model.specs.Outside.{in_slot}
use Rattle.xs_model.specs.Ports.{pin_happens}
use Rattle.step_laws.specs.Pins.{driven_then, driven_after, TellChanges}

-- a port that drove one thing before drives the other after what happened, and all of that tells changes
abbrev pub Tells : Slot → PortNumber → Option Word → List Happen → Option Word → Type 0
Tells slot p before happened after =
    (driven_after p before (map (in_slot slot) happened) ≡ after) × TellChanges p before (map (in_slot slot) happened)

-- what a port drives after a change of its pins, where that is one
abbrev pub Fits : Option Word → Option PinChange → Option Word → Type 0
Fits before None after = after ≡ before
Fits before (Some (Drive value)) after = (after ≡ Some value) × (before ≢ Some value)
Fits before (Some Float) after = (after ≡ None) × (before ≢ None)

-- what happens at another port, or at none
abbrev pub IsNotOn : PortNumber → Happen → Type 0
IsNotOn p (happen.Drive port value) = port ≢ p
IsNotOn p (happen.Float port) = port ≢ p
IsNotOn p _ = Unit {0}

module _ (slot : Slot) (p : PortNumber) where
  pub tells_both : (a b c : Option Word) (xs ys : List Happen) → Tells slot p a xs b → Tells slot p b ys c → Tells slot p a (xs ++ ys) c
  tells_both a b c [] ys h k = subst (λ d. Tells slot p d ys c) (sym h.0) k
  tells_both a b c (x ∷ xs) ys h k =
      let rest : Tells slot p (driven_then p a x) (xs ++ ys) c = tells_both (driven_then p a x) b c xs ys (h.0, h.1.1) k in
      (rest.0, (h.1.0, rest.1))

  one_other : (before : Option Word) (x : Happen) → IsNotOn p x → Tells slot p before (x ∷ []) before
  one_other before (happen.Drive port value) other =
      (ap (λ (is : Bool). if is then Some value else before) (ne_eqb port p other), ((λ same. absurd (other same)), tt))
  one_other before (happen.Float port) other =
      (ap (λ (is : Bool). if is then None else before) (ne_eqb port p other), ((λ same. absurd (other same)), tt))
  one_other before (happen.Chan chan token) other = (refl, (tt, tt))
  one_other before (happen.Lost id) other = (refl, (tt, tt))
  one_other before (happen.Trap thread et pc ed) other = (refl, (tt, tt))
  one_other before (happen.Halt thread) other = (refl, (tt, tt))

  pub tells_other : (before : Option Word) (xs : List Happen) → AllByRecursion (IsNotOn p) xs → Tells slot p before xs before
  tells_other before [] h = (refl, tt)
  tells_other before (x ∷ xs) h =
      tells_both before before before (x ∷ []) xs (one_other before x h.0) (tells_other before xs h.1)

  pub tells_change : (before : Option Word) (change : Option PinChange) (after : Option Word) → Fits before change after → Tells slot p before (pin_happens p change) after
  tells_change before None after h = (sym h, tt)
  tells_change before (Some (Drive value)) after h =
      (ap (λ (is : Bool). if is then Some value else before) (eq-eqb p p refl) ∙ sym h.0, ((λ same. h.1), tt))
  tells_change before (Some Float) after h =
      (ap (λ (is : Bool). if is then None else before) (eq-eqb p p refl) ∙ sym h.0, ((λ same. h.1), tt))

pub change_few : (p : PortNumber) (change : Option PinChange) → length (pin_happens p change) ≤ 1
change_few p None = omega arith
change_few p (Some (Drive value)) = omega arith
change_few p (Some Float) = omega arith

pub change_not_on : (p port : PortNumber) (change : Option PinChange) → port ≢ p → AllByRecursion (IsNotOn p) (pin_happens port change)
change_not_on p port None other = tt
change_not_on p port (Some (Drive value)) other = (other, tt)
change_not_on p port (Some Float) other = (other, tt)

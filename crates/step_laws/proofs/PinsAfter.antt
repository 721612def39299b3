-- The ports of a core after an instruction, and what happened: nothing that is driven changed, or one port let go of its pins.
use Rattle.std.proofs.Common.{◌≡◌, ℕ, zero, suc, ◌<◌, ◌≤◌, Bool, true, false, if◌then◌else◌, Option, Some, None, List, [], ◌∷◌, length, map, get_or, slice_set, refl, sym, subst, arith, length-set, get_or-set_other, inl, inr}
use Rattle.std.proofs.lemmas.Bool.{cases_eq}
use Rattle.std.proofs.lemmas.List.{length-map}
use Rattle.std.specs.List.{AllByRecursion}
use Rattle.xs_base.specs.Numbers.{Slot, Word, PortNumber}
use Rattle.xs_base.specs.declared.numbers.TheConstants.{PORTS}
use Rattle.xs_model.specs.declared.event.Happen.{Happen}
use Rattle.xs_model.specs.declared.pins.PinChange.{PinChange}
use Rattle.xs_model.specs.declared.pins.PinChange.TheVariants.{Drive, Float}
use Rattle.xs_model.specs.Record.{PortRec, off_port}
use Rattle.xs_model.specs.Ports.{pin_happens}
use Rattle.xs_model.specs.PortActions.{goes_by, restarted}
use Rattle.xs_model.specs.Events.{NamesWhatIsThere}
use Rattle.step_laws.proofs.Tells.{Fits, Tells, tells_other, tells_change, change_few, change_not_on}
use Rattle.step_laws.proofs.PortActs.{LetsGo, GoesTo}

pub data PinsAfter (ports : List PortRec) : List PortRec → List Happen → Type 0 where
  pins_stay : PinsAfter ports ports []
  -- a clock block starts
  restart : (n : ℕ) → PinsAfter ports (map (restarted n) ports) []
  -- an instruction acts on a port
  acts : (p : PortNumber) (port : PortRec) (change : Option PinChange) → p < PORTS → GoesTo (get_or ports p off_port) change port → PinsAfter ports (slice_set ports p port) (pin_happens p change)

-- ---- What that tells

let_go_fits : (before : Option Word) (change : Option PinChange) (after : Option Word) → LetsGo before change after → Fits before change after
let_go_fits before None after h = h
let_go_fits before (Some (Drive value)) after h = absurd h
let_go_fits before (Some Float) after h = h

-- where there is no such port, none lets go
none_fits : (change : Option PinChange) (after : Option Word) → LetsGo None change after → Fits None change None
none_fits None after h = refl
none_fits (Some (Drive value)) after h = absurd h
none_fits (Some Float) after h = absurd (h.1 refl)

set_fits : (ports : List PortRec) (p : PortNumber) (port : PortRec) (change : Option PinChange) → LetsGo (get_or ports p off_port).driven change port.driven → Fits (get_or ports p off_port).driven change (get_or (slice_set ports p port) p off_port).driven
set_fits [] p port change h = none_fits change port.driven h
set_fits (old ∷ ports) zero port change h = let_go_fits old.driven change port.driven h
set_fits (old ∷ ports) (suc p) port change h = set_fits ports p port change h

restarted_drives : (n : ℕ) (ports : List PortRec) (p : PortNumber) → (get_or (map (restarted n) ports) p off_port).driven ≡ (get_or ports p off_port).driven
restarted_drives n [] p = refl
restarted_drives n (port ∷ ports) zero = same (goes_by n port.clock)
  where
    same : (holds : Bool) → (if holds then record port { counter = 0 } else port).driven ≡ port.driven
    same true = refl
    same false = refl
restarted_drives n (port ∷ ports) (suc p) = restarted_drives n ports p

pub after_tells : (slot : Slot) (p : PortNumber) (ports after : List PortRec) (happened : List Happen) → PinsAfter ports after happened → Tells slot p (get_or ports p off_port).driven happened (get_or after p off_port).driven
after_tells slot p ports after happened pins_stay = (refl, tt)
after_tells slot p ports after happened (restart n) = (sym (restarted_drives n ports p), tt)
after_tells slot p ports after happened (acts q port change there well) =
    let was = (get_or ports p off_port).driven in
    elim (cases_eq q p) [
      | inl same ↦ subst (λ r. Tells slot r (get_or ports r off_port).driven (pin_happens q change) (get_or (slice_set ports q port) r off_port).driven) same (tells_change slot q _ change _ (set_fits ports q port change well.0))
      | inr other ↦ subst (λ r. Tells slot p was (pin_happens q change) r.driven) (sym (get_or-set_other ports q p port off_port (λ e. other (sym e)))) (tells_other slot p was (pin_happens q change) (change_not_on p q change other))
    ]

pub after_as_many : (ports after : List PortRec) (happened : List Happen) → PinsAfter ports after happened → length after ≡ length ports
after_as_many ports after happened pins_stay = refl
after_as_many ports after happened (restart n) = length-map ports (restarted n)
after_as_many ports after happened (acts p port change there well) = length-set ports p port

pub after_few : (ports after : List PortRec) (happened : List Happen) → PinsAfter ports after happened → length happened ≤ 1
after_few ports after happened pins_stay = omega arith
after_few ports after happened (restart n) = omega arith
after_few ports after happened (acts p port change there well) = change_few p change

change_there : (p : PortNumber) (change : Option PinChange) → p < PORTS → AllByRecursion NamesWhatIsThere (pin_happens p change)
change_there p None h = tt
change_there p (Some (Drive value)) h = (h, tt)
change_there p (Some Float) h = (h, tt)

pub after_there : (ports after : List PortRec) (happened : List Happen) → PinsAfter ports after happened → AllByRecursion NamesWhatIsThere happened
after_there ports after happened pins_stay = tt
after_there ports after happened (restart n) = tt
after_there ports after happened (acts p port change there well) = change_there p change there

-- The edges of a slot at each port: they tell what it drives, and at most one thing happens at each.
use Rattle.std.proofs.Common.{◌≡◌, ℕ, zero, suc, ◌+◌, ◌<◌, ◌≤◌, ◌==◌, Bool, true, false, if◌then◌else◌, nat_lt, is_some, Option, Some, None, List, [], ◌∷◌, ◌++◌, length, take, drop, get_or, refl, sym, ap, subst, arith, length-append}
use Rattle.std.proofs.lemmas.Bool.{eqb-true, eqb-false, both_ways}
use Rattle.std.proofs.lemmas.Option.{none-some, same_Some}
use Rattle.std.specs.List.{AllByRecursion}
use Rattle.xs_base.specs.Numbers.{Slot, Word, PortNumber}
use Rattle.xs_base.specs.Ids.{port_width}
use Rattle.xs_model.specs.declared.clock.Edge.{Edge}
use Rattle.xs_model.specs.declared.clock.Edge.TheVariants as edge
use Rattle.xs_model.specs.declared.event.Happen.{Happen}
use Rattle.xs_model.specs.declared.event.Happen.TheVariants as happen
use Rattle.xs_model.specs.declared.pins.PinChange.{PinChange}
use Rattle.xs_model.specs.declared.pins.PinChange.TheVariants.{Drive, Float}
use Rattle.xs_model.specs.Record.{PortRec, TransferRec, ClockRec, off_port}
use Rattle.xs_model.specs.Bits.{bits_of, value_of}
use Rattle.xs_model.specs.Time.{edge_at}
use Rattle.xs_model.specs.Ports.{level_of, is_high, pin_happens, Edged, counter_after, shows, drives, beat_out, is_due, next_out, outputs, falls, is_met, is_condition, takes_if_met, takes_in_time, takes_by_time, samples, is_complete, keeps_or_takes, completes, shifts_in, begins, samples_buffered, sampled, lets_sample, rises, at_edge, port_edge, edge_in_slot, edges_from}
use Rattle.step_laws.proofs.Lists.{all_both, all_so}
use Rattle.step_laws.proofs.Tells.{Fits, Tells, IsNotOn, tells_both, tells_other, tells_change, change_few, change_not_on}

-- ---- A rising edge changes nothing that is driven

module _ (driven : Option Word) where
  abbrev Drives : PortRec → Type 0
  Drives port = port.driven ≡ driven

  either : (holds : Bool) (x y : PortRec) → Drives x → Drives y → Drives (if holds then x else y)
  either true x y one other = one
  either false x y one other = other

  module _ (width : ℕ) (level : Word) where
    if_met_drives : (port : PortRec) → Drives port → Drives (takes_if_met width level port)
    if_met_drives port h = either (is_met port.condition port.value level) _ _ h h

    in_time_drives : (port : PortRec) → Drives port → Drives (takes_in_time width level port)
    in_time_drives port h = either (is_condition port.condition) _ _ (if_met_drives (record port { time = None }) h) h

    by_time_drives : (port : PortRec) (time : Option ℕ) → Drives port → Drives (takes_by_time width level port time)
    by_time_drives port None h = if_met_drives port h
    by_time_drives port (Some time) h = either (port.counter == time) _ _ (in_time_drives port h) h

    samples_drives : (port : PortRec) → Drives port → Drives (samples width level port)
    samples_drives port h = either port.held _ _ h (by_time_drives port port.time h)

    completes_drives : (port : PortRec) → Drives port → Drives (completes port)
    completes_drives port h =
        let kept : Drives (keeps_or_takes port) = either (is_some port.transfer) _ _ h h in
        either (is_complete port port.time) _ _ kept h

    buffered_drives : (port : PortRec) → Drives port → Drives (samples_buffered width level port)
    buffered_drives port h =
        let begun : Drives (begins port) = either (is_condition port.condition) _ _ h h in
        either (is_met port.condition port.value level) _ _ (completes_drives (shifts_in width level (begins port)) begun) h

    rises_drives : (high : Bool) (port : PortRec) → Drives port → Drives (rises width level high port)
    rises_drives high port h =
        let taken : Drives (sampled width level port) = either port.buffered _ _ (buffered_drives port h) (samples_drives port h) in
        either port.output _ _ h (either (lets_sample port.strobe high) _ _ taken h)

-- ---- A falling edge tells what it changes

abbrev FitsEdged : Option Word → Edged → Type 0
FitsEdged before e = Fits before e.change e.port.driven

or_fits : (before : Option Word) (holds : Bool) (x y : Edged) → FitsEdged before x → FitsEdged before y → FitsEdged before (if holds then x else y)
or_fits before true x y one other = one
or_fits before false x y one other = other

shows_fits : (value : Word) (before : Option Word) (shown : Bool) → shows value before ≡ shown → Fits before (if shown then None else Some (Drive value)) (Some value)
shows_fits value None true is = absurd (both_ways _ refl is)
shows_fits value None false is = (refl, none-some value)
shows_fits value (Some driven) true is = ap Some (sym (eqb-true driven value is))
shows_fits value (Some driven) false is = (refl, λ same. eqb-false driven value is (same_Some driven value same))

drives_fits : (value : Word) (port : PortRec) → FitsEdged port.driven (drives value port)
drives_fits value port = shows_fits value port.driven (shows value port.driven) refl

module _ (width : ℕ) where
  beat_fits : (port : PortRec) → FitsEdged port.driven (beat_out width port)
  beat_fits port = drives_fits (value_of (take width port.shift)) (record port { shift = drop width port.shift })

  next_fits : (port : PortRec) (next : Option TransferRec) → FitsEdged port.driven (next_out width port next)
  next_fits port None = refl
  next_fits port (Some t) =
      or_fits port.driven (is_due port.counter t.time) _ _ (beat_fits (record port { shift = bits_of t.bits t.value; transfer = None; stamp = port.counter })) refl

  outputs_fits : (port : PortRec) → FitsEdged port.driven (outputs width port)
  outputs_fits port = or_fits port.driven (nat_lt 0 (length port.shift)) _ _ (beat_fits port) (next_fits port port.transfer)

  falls_fits : (port : PortRec) → FitsEdged port.driven (falls width port)
  falls_fits port = or_fits port.driven port.output _ _ (outputs_fits (record port { counter = counter_after port.counter })) refl

  at_edge_fits : (e : Edge) (level : Word) (high : Bool) (port : PortRec) → FitsEdged port.driven (at_edge width e level high port)
  at_edge_fits edge.None level high port = refl
  at_edge_fits edge.Rise level high port = rises_drives port.driven width level high port refl
  at_edge_fits edge.Fall level high port = falls_fits port

  edge_fits : (e : Edge) (level : Word) (high : Bool) (port : PortRec) → FitsEdged port.driven (port_edge width e level high port)
  edge_fits e level high port = or_fits port.driven port.on _ _ (at_edge_fits e level high port) refl

-- ---- All ports

-- what happens at a port from one number on, and below another
abbrev pub IsWithin : PortNumber → PortNumber → Happen → Type 0
IsWithin low high (happen.Drive port value) = (low ≤ port) × (port < high)
IsWithin low high (happen.Float port) = (low ≤ port) × (port < high)
IsWithin low high _ = ⊥

change_within : (p high : PortNumber) (change : Option PinChange) → p < high → AllByRecursion (IsWithin p high) (pin_happens p change)
change_within p high None h = tt
change_within p high (Some (Drive value)) h = ((omega arith, h), tt)
change_within p high (Some Float) h = ((omega arith, h), tt)

wider : (low low' high high' : PortNumber) → low' ≤ low → high ≤ high' → (x : Happen) → IsWithin low high x → IsWithin low' high' x
wider low low' high high' a b (happen.Drive port value) h = (omega (arith, h.0), omega (arith, h.1))
wider low low' high high' a b (happen.Float port) h = (omega (arith, h.0), omega (arith, h.1))
wider low low' high high' a b (happen.Chan chan token) h = absurd h
wider low low' high high' a b (happen.Lost id) h = absurd h
wider low low' high high' a b (happen.Trap thread et pc ed) h = absurd h
wider low low' high high' a b (happen.Halt thread) h = absurd h

above_not_on : (p low high : PortNumber) → p < low → (x : Happen) → IsWithin low high x → IsNotOn p x
above_not_on p low high above (happen.Drive port value) h = λ same. omega (arith, h.0)
above_not_on p low high above (happen.Float port) h = λ same. omega (arith, h.0)
above_not_on p low high above (happen.Chan chan token) h = absurd h
above_not_on p low high above (happen.Lost id) h = absurd h
above_not_on p low high above (happen.Trap thread et pc ed) h = absurd h
above_not_on p low high above (happen.Halt thread) h = absurd h

module _ (slot : Slot) (clocks : List ClockRec) (levels : List Word) where
  -- what happens at the ports from number n on is at one of these
  pub edges_within : (n : PortNumber) (ports : List PortRec) (outside : List Word) → AllByRecursion (IsWithin n (n + length ports)) (edges_from slot clocks levels n ports outside).happened
  unfolding edges_from
  edges_within n [] outside = tt
  edges_within n (port ∷ ports) [] = tt
  edges_within n (port ∷ ports) (o ∷ outside) =
      let e = edge_in_slot slot clocks levels n port o in
      let later = edges_from slot clocks levels (n + 1) ports outside in
      let high = n + length (port ∷ ports) in
      all_both (IsWithin n high) (pin_happens n e.change) later.happened (change_within n high e.change (omega arith))
      (all_so (IsWithin (n + 1) (n + 1 + length ports)) (IsWithin n high) (wider (n + 1) n (n + 1 + length ports) high (omega arith) (omega arith)) later.happened (edges_within (n + 1) ports outside))

  -- at most one thing happens at each
  pub edges_few : (n : PortNumber) (ports : List PortRec) (outside : List Word) → length (edges_from slot clocks levels n ports outside).happened ≤ length ports
  unfolding edges_from
  edges_few n [] outside = omega arith
  edges_few n (port ∷ ports) [] = omega arith
  edges_few n (port ∷ ports) (o ∷ outside) =
      let e = edge_in_slot slot clocks levels n port o in
      let later = edges_from slot clocks levels (n + 1) ports outside in
      omega (arith, length-append (pin_happens n e.change) later.happened, change_few n e.change, edges_few (n + 1) ports outside)

  pub edges_as_many : (n : PortNumber) (ports : List PortRec) (outside : List Word) → length (edges_from slot clocks levels n ports outside).ports ≡ length ports
  unfolding edges_from
  edges_as_many n [] outside = refl
  edges_as_many n (port ∷ ports) [] = refl
  edges_as_many n (port ∷ ports) (o ∷ outside) = ap suc (edges_as_many (n + 1) ports outside)

  -- the first of the ports
  first_tells : (n : PortNumber) (port : PortRec) (ports : List PortRec) (o : Word) (outside : List Word) → let e = edge_in_slot slot clocks levels n port o in Tells slot n port.driven (pin_happens n e.change ++ (edges_from slot clocks levels (n + 1) ports outside).happened) e.port.driven
  first_tells n port ports o outside =
      let e = edge_in_slot slot clocks levels n port o in
      let later = edges_from slot clocks levels (n + 1) ports outside in
      let fits : Fits port.driven e.change e.port.driven = edge_fits (port_width n) (edge_at clocks port.clock slot) (level_of port.driven o) (is_high levels port.strobe) port in
      let others : AllByRecursion (IsNotOn n) later.happened = all_so (IsWithin (n + 1) (n + 1 + length ports)) (IsNotOn n) (above_not_on n (n + 1) (n + 1 + length ports) (omega arith)) later.happened (edges_within (n + 1) ports outside) in
      tells_both slot n port.driven e.port.driven e.port.driven (pin_happens n e.change) later.happened (tells_change slot n port.driven e.change e.port.driven fits) (tells_other slot n e.port.driven later.happened others)

  pub edges_tell : (n : PortNumber) (ports : List PortRec) (outside : List Word) (i p : ℕ) → n + i ≡ p → let edged = edges_from slot clocks levels n ports outside in Tells slot p (get_or ports i off_port).driven edged.happened (get_or edged.ports i off_port).driven
  unfolding edges_from
  edges_tell n [] outside i p e = (refl, tt)
  edges_tell n (port ∷ ports) [] i p e = (refl, tt)
  edges_tell n (port ∷ ports) (o ∷ outside) zero p e =
      let same : n ≡ p = omega arith in
      let edged = edges_from slot clocks levels n (port ∷ ports) (o ∷ outside) in
      subst (λ q. Tells slot q port.driven edged.happened (get_or edged.ports 0 off_port).driven) same (first_tells n port ports o outside)
  edges_tell n (port ∷ ports) (o ∷ outside) (suc i) p e =
      let one = edge_in_slot slot clocks levels n port o in
      let later = edges_from slot clocks levels (n + 1) ports outside in
      let before = (get_or ports i off_port).driven in
      let after = (get_or later.ports i off_port).driven in
      tells_both slot p before before after (pin_happens n one.change) later.happened (tells_other slot p before (pin_happens n one.change) (change_not_on p n one.change (λ same. omega (arith, same)))) (edges_tell (n + 1) ports outside i p (omega arith))

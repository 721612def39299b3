-- What ports drive fits their pins, before a slot and after it.
use Rattle.std.proofs.Common.{◌≡◌, ℕ, zero, suc, ◌+◌, ◌<◌, ◌==◌, ◌^◌, Bool, true, false, if◌then◌else◌, nat_lt, is_some, Option, Some, None, List, [], ◌∷◌, ◌++◌, ◌-◌, length, map, get_or, slice_set, replicate, refl, sym, ap, subst, arith, get_or-set_other, inl, inr}
use mathlib.Core.Logic.{◌⊎◌}
use Rattle.std.specs.Prelude.{IfSome}
use Rattle.std.proofs.lemmas.Bool.{cases_eq}
use Rattle.xs_base.specs.Numbers.{Slot, Word, PortNumber, ThreadNumber}
use Rattle.xs_base.specs.Ids.{port_width}
use Rattle.xs_model.specs.declared.clock.Edge.{Edge}
use Rattle.xs_model.specs.declared.clock.Edge.TheVariants as edge
use Rattle.xs_model.specs.declared.event.Happen.{Happen}
use Rattle.xs_model.specs.declared.pins.PinChange.{PinChange}
use Rattle.xs_model.specs.declared.pins.PinChange.TheVariants.{Drive, Float}
use Rattle.xs_model.specs.Record.{CoreRec, PortRec, TransferRec, ClockRec, off_port}
use Rattle.xs_model.specs.Bits.{bits_of}
use Rattle.xs_model.specs.Time.{edge_at}
use Rattle.xs_model.specs.Ports.{level_of, is_high, unchanged, counter_after, beat_out, is_due, next_out, outputs, falls, is_met, is_condition, takes_if_met, takes_in_time, takes_by_time, samples, is_complete, keeps_or_takes, completes, shifts_in, begins, samples_buffered, sampled, lets_sample, rises, at_edge, port_edge, edges_from}
use Rattle.xs_model.specs.PortActions.{goes_by, restarted}
use Rattle.xs_model.specs.Picks.{picked}
use Rattle.xs_instructions.specs.declared.instr.Instr.{Instr}
use Rattle.port_laws.proofs.Bits.{bits_drop, bits_append, bits_are, beat_fits}
use Rattle.step_model.specs.Effect.{Setting}
use Rattle.step_model.specs.Step.{setting_of, before_issue, issued_by, node_step}
use Rattle.step_laws.specs.Driven.{FitsPins, FirstFitsPins, SlotFitsPins}
use Rattle.step_laws.proofs.PortActs.{LetsGo, GoesTo}
use Rattle.step_laws.proofs.PinsAfter.{PinsAfter, pins_stay, restart, acts}
use Rattle.step_laws.proofs.Lasts.{PortsIssued, by_row, by_trap, issue_ports}
use Rattle.step_laws.proofs.Phases.{before_issue_went}

-- ---- The edge of a port's clock

module _ (width : ℕ) where
  abbrev Fit : PortRec → Type 0
  Fit port = FitsPins width port.shift port.driven

  pub off_fits : Fit off_port
  off_fits = record { bits = tt; driven = tt }

  either : (holds : Bool) (x y : PortRec) → Fit x → Fit y → Fit (if holds then x else y)
  either true x y one other = one
  either false x y one other = other

  -- without bits
  empty_fits : (port : PortRec) → Fit port → FitsPins width [] port.driven
  empty_fits port h = record { bits = tt; driven = h.driven }

  module _ (level : Word) where
    if_met_fits : (port : PortRec) → Fit port → Fit (takes_if_met width level port)
    if_met_fits port h = either (is_met port.condition port.value level) _ _ h h

    in_time_fits : (port : PortRec) → Fit port → Fit (takes_in_time width level port)
    in_time_fits port h = either (is_condition port.condition) _ _ (if_met_fits (record port { time = None }) h) h

    by_time_fits : (port : PortRec) (time : Option ℕ) → Fit port → Fit (takes_by_time width level port time)
    by_time_fits port None h = if_met_fits port h
    by_time_fits port (Some time) h = either (port.counter == time) _ _ (in_time_fits port h) h

    samples_fits : (port : PortRec) → Fit port → Fit (samples width level port)
    samples_fits port h = either port.held _ _ h (by_time_fits port port.time h)

    completes_fits : (port : PortRec) → Fit port → Fit (completes port)
    completes_fits port h =
        let kept : Fit (keeps_or_takes port) = either (is_some port.transfer) _ _ h h in
        either (is_complete port port.time) _ _ (empty_fits (keeps_or_takes port) kept) h

    shift_fits : (port : PortRec) → Fit port → Fit (shifts_in width level port)
    shift_fits port h =
        let all = port.shift ++ bits_of width level in
        record {
          bits = bits_drop (length all - port.transfer_width) all (bits_append port.shift (bits_of width level) h.bits (bits_are width level));
          driven = h.driven;
        }

    buffered_fits : (port : PortRec) → Fit port → Fit (samples_buffered width level port)
    buffered_fits port h =
        let begun : Fit (begins port) = either (is_condition port.condition) _ _ (empty_fits port h) h in
        either (is_met port.condition port.value level) _ _ (completes_fits (shifts_in width level (begins port)) (shift_fits (begins port) begun)) h

    rises_fits : (high : Bool) (port : PortRec) → Fit port → Fit (rises width level high port)
    rises_fits high port h =
        let taken : Fit (sampled width level port) = either port.buffered _ _ (buffered_fits port h) (samples_fits port h) in
        either port.output _ _ h (either (lets_sample port.strobe high) _ _ taken h)

  beat_out_fits : (port : PortRec) → Fit port → Fit (beat_out width port).port
  beat_out_fits port h = record { bits = bits_drop width port.shift h.bits; driven = beat_fits width port.shift h.bits }

  next_fits : (port : PortRec) (next : Option TransferRec) → Fit port → Fit (next_out width port next).port
  next_fits port None h = h
  next_fits port (Some t) h = by_due (is_due port.counter t.time)
    where
      begun : PortRec
      begun = record port { shift = bits_of t.bits t.value; transfer = None; stamp = port.counter }

      by_due : (due : Bool) → Fit (if due then beat_out width begun else unchanged port).port
      by_due true = beat_out_fits begun (record { bits = bits_are t.bits t.value; driven = h.driven })
      by_due false = h

  outputs_fits : (port : PortRec) → Fit port → Fit (outputs width port).port
  outputs_fits port h = by_bits (nat_lt 0 (length port.shift))
    where
      by_bits : (some : Bool) → Fit (if some then beat_out width port else next_out width port port.transfer).port
      by_bits true = beat_out_fits port h
      by_bits false = next_fits port port.transfer h

  falls_fits : (port : PortRec) → Fit port → Fit (falls width port).port
  falls_fits port h = by_output port.output
    where
      counted : PortRec
      counted = record port { counter = counter_after port.counter }

      by_output : (output : Bool) → Fit (if output then outputs width counted else unchanged counted).port
      by_output true = outputs_fits counted h
      by_output false = h

  at_edge_fits : (e : Edge) (level : Word) (high : Bool) (port : PortRec) → Fit port → Fit (at_edge width e level high port).port
  at_edge_fits edge.None level high port h = h
  at_edge_fits edge.Rise level high port h = rises_fits level high port h
  at_edge_fits edge.Fall level high port h = falls_fits port h

  edge_fits : (e : Edge) (level : Word) (high : Bool) (port : PortRec) → Fit port → Fit (port_edge width e level high port).port
  edge_fits e level high port h = by_on port.on
    where
      by_on : (on : Bool) → Fit (if on then at_edge width e level high port else unchanged port).port
      by_on true = at_edge_fits e level high port h
      by_on false = h

-- ---- All ports

abbrev FitAt : PortNumber → PortRec → Type 0
FitAt p port = Fit (port_width p) port

abbrev AllFit : List PortRec → Type 0
AllFit ports = (p : PortNumber) → FitAt p (get_or ports p off_port)

module _ (slot : Slot) (clocks : List ClockRec) (levels : List Word) where
  edges_fit : (n : PortNumber) (ports : List PortRec) (outside : List Word) (i p : ℕ) → n + i ≡ p → FitAt p (get_or ports i off_port)
      → FitAt p (get_or (edges_from slot clocks levels n ports outside).ports i off_port)
  unfolding edges_from
  edges_fit n [] outside i p e h = h
  edges_fit n (port ∷ ports) [] i p e h = h
  edges_fit n (port ∷ ports) (o ∷ outside) zero p e h =
      let same : p ≡ n = omega arith in
      let width : port_width p ≡ port_width n = ap port_width same in
      subst (λ w. Fit w (port_edge (port_width n) (edge_at clocks port.clock slot) (level_of port.driven o) (is_high levels port.strobe) port).port) (sym width)
      (edge_fits (port_width n) (edge_at clocks port.clock slot) (level_of port.driven o) (is_high levels port.strobe) port (subst (λ w. Fit w port) width h))
  edges_fit n (port ∷ ports) (o ∷ outside) (suc i) p e h = edges_fit (n + 1) ports outside i p (omega arith) h

-- ---- The issue

let_go_fits : (width : ℕ) (before : Option Word) (change : Option PinChange) (after : Option Word) → LetsGo before change after
    → IfSome before (λ value. value < 2 ^ width) → IfSome after (λ value. value < 2 ^ width)
let_go_fits width before None after goes h = subst (λ driven. IfSome driven (λ value. value < 2 ^ width)) (sym goes) h
let_go_fits width before (Some (Drive value)) after goes h = absurd goes
let_go_fits width before (Some Float) after goes h = subst (λ driven. IfSome driven (λ value. value < 2 ^ width)) (sym goes.0) tt

goes_fits : (width : ℕ) (before port : PortRec) (change : Option PinChange) → GoesTo before change port → Fit width before → Fit width port
goes_fits width before port change goes h = record { bits = goes.1 h.bits; driven = let_go_fits width before.driven change port.driven goes.0 h.driven }

-- a port that is set is there, or none is
set_here : (ports : List PortRec) (p : ℕ) (port : PortRec) → (get_or (slice_set ports p port) p off_port ≡ port) ⊎ (get_or (slice_set ports p port) p off_port ≡ off_port)
set_here [] p port = inr refl
set_here (old ∷ ports) zero port = inl refl
set_here (old ∷ ports) (suc p) port = set_here ports p port

set_fit : (ports : List PortRec) (q : ℕ) (port : PortRec) → AllFit ports → FitAt q port → AllFit (slice_set ports q port)
set_fit ports q port all h p =
    elim (cases_eq q p) [
      | inl same ↦ subst (λ (r : ℕ). FitAt r (get_or (slice_set ports q port) r off_port)) same here
      | inr other ↦ subst (FitAt p) (sym (get_or-set_other ports q p port off_port (λ e. other (sym e)))) (all p)
    ]
  where
    here : FitAt q (get_or (slice_set ports q port) q off_port)
    here = elim (set_here ports q port) [
      | inl is ↦ subst (FitAt q) (sym is) h
      | inr none ↦ subst (FitAt q) (sym none) (off_fits (port_width q))
    ]

restarted_fit : (n : ℕ) (ports : List PortRec) (p : ℕ) → FitAt p (get_or ports p off_port) → FitAt p (get_or (map (restarted n) ports) p off_port)
restarted_fit n ports p h = at ports p h
  where
    at : (ports : List PortRec) (i : ℕ) → FitAt p (get_or ports i off_port) → FitAt p (get_or (map (restarted n) ports) i off_port)
    at [] i h = h
    at (port ∷ ports) zero h = either (port_width p) (goes_by n port.clock) _ _ h h
    at (port ∷ ports) (suc i) h = at ports i h

after_fit : (ports after : List PortRec) (happened : List Happen) → PinsAfter ports after happened → AllFit ports → AllFit after
after_fit ports after happened pins_stay all = all
after_fit ports after happened (restart n) all = λ p. restarted_fit n ports p (all p)
after_fit ports after happened (acts q port change there well) all =
    set_fit ports q port all (goes_fits (port_width q) (get_or ports q off_port) port change well (all q))

issued_fit : (k : ThreadNumber) (ports after : List PortRec) (happened : List Happen) → PortsIssued k ports after happened → AllFit ports → AllFit after
issued_fit k ports after happened (by_row _ _ h) all = after_fit ports after happened h all
issued_fit k ports after happened (by_trap _ few of) all = all

by_fit : (code : List Instr) (here : Setting) (core : CoreRec) (who : Option ThreadNumber) → AllFit core.ports → AllFit (issued_by code here core who).core.ports
by_fit code here core None all = all
by_fit code here core (Some k) all = issued_fit k _ _ _ (issue_ports code here core k) all

-- ---- The slot

pub first_fits_pins : FirstFitsPins
first_fits_pins entry cp_at memory p = off_at 29 p
  where
    off_at : (n i : ℕ) → FitAt p (get_or (replicate n off_port) i off_port)
    off_at zero i = off_fits (port_width p)
    off_at (suc n) zero = off_fits (port_width p)
    off_at (suc n) (suc i) = off_at n i

pub slot_fits_pins : SlotFitsPins
unfolding node_step
slot_fits_pins fixed rec slot arrivals pins all =
    let before = before_issue fixed rec slot arrivals pins in
    let went = before_issue_went fixed rec slot arrivals pins in
    let edged : AllFit (edges_from slot rec.core.clocks rec.levels 0 rec.core.ports pins.level).ports =
    λ p. edges_fit slot rec.core.clocks rec.levels 0 rec.core.ports pins.level p p (omega arith) (all p) in
    by_fit fixed.code (setting_of fixed slot pins before.rec) before.rec.core (picked before.rec.core slot) (subst AllFit (sym went.0.2) edged)

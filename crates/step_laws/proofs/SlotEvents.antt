-- The events of a slot: of the edges of the ports, of the switch and of the issue, in this order.
use Rattle.std.proofs.Common.{◌≡◌, ℕ, zero, suc, ◌+◌, ◌<◌, ◌≤◌, Bool, Option, Some, None, List, [], ◌∷◌, ◌++◌, length, map, get_or, replicate, refl, sym, ap, subst, ◌∙◌, arith, length-append}
use Rattle.std.proofs.lemmas.List.{length-map}
use Rattle.std.proofs.lemmas.List.Elements.{All-nil, All-cons}
use Rattle.std.specs.List.{All, AllByRecursion}
use Rattle.xs_base.specs.Numbers.{Slot, ThreadNumber, PortNumber}
use Rattle.xs_base.specs.declared.numbers.TheConstants.{PORTS, THREADS, INPUTS}
use Rattle.xs_model.specs.declared.event.Happen.{Happen}
use Rattle.xs_model.specs.declared.event.Happen.TheVariants as happen
use Rattle.xs_model.specs.declared.outside.Arrivals.{Arrivals}
use Rattle.xs_model.specs.declared.outside.PinView.{PinView}
use Rattle.xs_model.specs.Record.{CoreRec, NodeRec, PortRec, Idle, off_port, port_of}
use Rattle.xs_model.specs.AtWork.{AtWork}
use Rattle.xs_model.specs.Outside.{in_slot}
use Rattle.xs_model.specs.Ports.{PortsEdged, edges_from}
use Rattle.xs_model.specs.Events.{NamesWhatIsThere, IsWithinCounts}
use Rattle.xs_model.specs.Picks.{eligible, best_from, number_of_best, picked}
use Rattle.xs_instructions.specs.declared.instr.Instr.{Instr}
use Rattle.step_model.specs.Effect.{Setting}
use Rattle.step_model.specs.Fixed.{Fixed}
use Rattle.step_model.specs.Step.{Issued, setting_of, before_issue, issued, issued_by, node_step}
use Rattle.step_laws.specs.Pins.{SlotTellsDriven, SlotTellsChanges}
use Rattle.step_laws.specs.Shape.{HasShape, FirstHasShape, SlotKeepsShape, most_events, SlotMakesFewEvents, SlotNamesWhatIsThere}
use Rattle.step_laws.proofs.Lists.{all_both, all_so}
use Rattle.step_laws.proofs.Tells.{Tells, IsNotOn, tells_both, tells_other}
use Rattle.step_laws.proofs.Edges.{IsWithin, edges_within, edges_few, edges_as_many, edges_tell}
use Rattle.step_laws.proofs.Phases.{Held, IsOfSwitch, before_issue_went}
use Rattle.step_laws.proofs.PinsAfter.{after_tells, after_as_many, after_few, after_there}
use Rattle.step_laws.proofs.Lasts.{IsOf, PortsIssued, by_row, by_trap, issue_ports}
use Rattle.step_laws.proofs.Best.{IsBest, best_is_best}
use Rattle.step_laws.proofs.EightSlots.{slot_keeps_all}

-- ---- What happens at no port

switch_not_on : (S : Type 0) (p : PortNumber) (x : Happen) → IsOfSwitch S x → IsNotOn p x
switch_not_on S p (happen.Drive port value) h = absurd h
switch_not_on S p (happen.Float port) h = absurd h
switch_not_on S p (happen.Chan chan token) h = tt
switch_not_on S p (happen.Lost id) h = tt
switch_not_on S p (happen.Trap thread et pc ed) h = absurd h
switch_not_on S p (happen.Halt thread) h = absurd h

trap_not_on : (k : ThreadNumber) (p : PortNumber) (x : Happen) → IsOf k x → IsNotOn p x
trap_not_on k p (happen.Drive port value) h = absurd h
trap_not_on k p (happen.Float port) h = absurd h
trap_not_on k p (happen.Chan chan token) h = absurd h
trap_not_on k p (happen.Lost id) h = absurd h
trap_not_on k p (happen.Trap thread et pc ed) h = tt
trap_not_on k p (happen.Halt thread) h = tt

-- ---- What is there

edge_there : (x : Happen) → IsWithin 0 PORTS x → NamesWhatIsThere x
edge_there (happen.Drive port value) h = h.1
edge_there (happen.Float port) h = h.1
edge_there (happen.Chan chan token) h = absurd h
edge_there (happen.Lost id) h = absurd h
edge_there (happen.Trap thread et pc ed) h = absurd h
edge_there (happen.Halt thread) h = absurd h

switch_there : (S : Type 0) → S → (x : Happen) → IsOfSwitch S x → NamesWhatIsThere x
switch_there S s (happen.Drive port value) h = absurd h
switch_there S s (happen.Float port) h = absurd h
switch_there S s (happen.Chan chan token) h = h s
switch_there S s (happen.Lost id) h = tt
switch_there S s (happen.Trap thread et pc ed) h = absurd h
switch_there S s (happen.Halt thread) h = absurd h

trap_there : (k : ThreadNumber) → k < THREADS → (x : Happen) → IsOf k x → NamesWhatIsThere x
trap_there k less (happen.Drive port value) h = absurd h
trap_there k less (happen.Float port) h = absurd h
trap_there k less (happen.Chan chan token) h = absurd h
trap_there k less (happen.Lost id) h = absurd h
trap_there k less (happen.Trap thread et pc ed) h = subst (λ n. n < THREADS) (sym h) less
trap_there k less (happen.Halt thread) h = subst (λ n. n < THREADS) (sym h) less

-- ---- The issue

issued_tells : (k : ThreadNumber) (ports after : List PortRec) (happened : List Happen) (slot : Slot) (p : PortNumber) → PortsIssued k ports after happened → Tells slot p (get_or ports p off_port).driven happened (get_or after p off_port).driven
issued_tells k ports after happened slot p (by_row _ _ h) = after_tells slot p ports after happened h
issued_tells k ports after happened slot p (by_trap _ few of) =
    tells_other slot p (get_or ports p off_port).driven happened (all_so (IsOf k) (IsNotOn p) (trap_not_on k p) happened of)

issued_as_many : (k : ThreadNumber) (ports after : List PortRec) (happened : List Happen) → PortsIssued k ports after happened → length after ≡ length ports
issued_as_many k ports after happened (by_row _ _ h) = after_as_many ports after happened h
issued_as_many k ports after happened (by_trap _ few of) = refl

issued_few : (k : ThreadNumber) (ports after : List PortRec) (happened : List Happen) → PortsIssued k ports after happened → length happened ≤ 2
issued_few k ports after happened (by_row _ _ h) = omega (arith, after_few ports after happened h)
issued_few k ports after happened (by_trap _ few of) = few

issued_there : (k : ThreadNumber) (ports after : List PortRec) (happened : List Happen) → k < THREADS → PortsIssued k ports after happened → AllByRecursion NamesWhatIsThere happened
issued_there k ports after happened less (by_row _ _ h) = after_there ports after happened h
issued_there k ports after happened less (by_trap _ few of) = all_so (IsOf k) NamesWhatIsThere (trap_there k less) happened of

-- by the thread that is picked, if there is one
abbrev IsThread : Option ThreadNumber → Type 0
IsThread None = Unit {0}
IsThread (Some k) = k < THREADS

best_is_thread : (may : ThreadNumber → Bool) (lasts : List (Option Slot)) (best : Option (ThreadNumber × Option Slot)) → length lasts ≡ THREADS → IsBest may 0 lasts best → IsThread (number_of_best best)
best_is_thread may lasts None eight h = tt
best_is_thread may lasts (Some best) eight (p, b) = omega (arith, b.number, b.within, eight)

picked_is_thread : (core : CoreRec) (slot : Slot) → length core.slots.last ≡ THREADS → IsThread (picked core slot)
picked_is_thread core slot eight =
    best_is_thread (λ j. eligible core j slot) core.slots.last (best_from (λ j. eligible core j slot) 0 core.slots.last) eight (best_is_best (λ j. eligible core j slot) 0 core.slots.last)

module _ (code : List Instr) (here : Setting) (core : CoreRec) where
  by_tells : (p : PortNumber) (who : Option ThreadNumber) → let i = issued_by code here core who in Tells here.slot p (port_of core p).driven i.happened (port_of i.core p).driven
  by_tells p None = (refl, tt)
  by_tells p (Some k) = issued_tells k _ _ _ here.slot p (issue_ports code here core k)

  by_as_many : (who : Option ThreadNumber) → length (issued_by code here core who).core.ports ≡ length core.ports
  by_as_many None = refl
  by_as_many (Some k) = issued_as_many k _ _ _ (issue_ports code here core k)

  by_few : (who : Option ThreadNumber) → length (issued_by code here core who).happened ≤ 2
  by_few None = omega arith
  by_few (Some k) = issued_few k _ _ _ (issue_ports code here core k)

  by_there : (who : Option ThreadNumber) → IsThread who → AllByRecursion NamesWhatIsThere (issued_by code here core who).happened
  by_there None h = tt
  by_there (Some k) less = issued_there k _ _ _ less (issue_ports code here core k)

-- ---- The slot

module _ (fixed : Fixed) (rec : NodeRec) (slot : Slot) (arrivals : Arrivals) (pins : PinView) where
  abbrev edged : PortsEdged
  edged = edges_from slot rec.core.clocks rec.levels 0 rec.core.ports pins.level

  abbrev before : AtWork
  before = before_issue fixed rec slot arrivals pins

  abbrev issue : Issued
  issue = issued fixed.code (setting_of fixed slot pins before.rec) before.rec.core

  before_tells : (p : PortNumber) → Tells slot p (port_of rec.core p).driven before.happened (port_of before.rec.core p).driven
  before_tells p =
      let was = (port_of rec.core p).driven in
      let is = (get_or edged.ports p off_port).driven in
      let S = Held rec.inputs in
      let (keeps, (more, grown, few, of), held) = before_issue_went fixed rec slot arrivals pins in
      let edges : Tells slot p was edged.happened is = edges_tell slot rec.core.clocks rec.levels 0 rec.core.ports pins.level p p (omega arith) in
      let others : Tells slot p is more is = tells_other slot p is more (all_so (IsOfSwitch S) (IsNotOn p) (switch_not_on S p) more of) in
      let both : Tells slot p was (edged.happened ++ more) is = tells_both slot p was is is edged.happened more edges others in
      subst (λ happened. Tells slot p was happened (port_of before.rec.core p).driven) (sym grown)
      (subst (λ ports. Tells slot p was (edged.happened ++ more) (get_or ports p off_port).driven) (sym keeps.2) both)

  slot_tells : (p : PortNumber) → Tells slot p (port_of rec.core p).driven (before.happened ++ issue.happened) (port_of issue.core p).driven
  slot_tells p =
      tells_both slot p (port_of rec.core p).driven (port_of before.rec.core p).driven (port_of issue.core p).driven before.happened issue.happened (before_tells p)
      (by_tells fixed.code (setting_of fixed slot pins before.rec) before.rec.core p (picked before.rec.core slot))

  slot_few : length rec.core.ports ≡ PORTS → length (before.happened ++ issue.happened) ≤ most_events
  slot_few ports =
      let (keeps, (more, grown, few, of), held) = before_issue_went fixed rec slot arrivals pins in
      let edges : length edged.happened ≤ length rec.core.ports = edges_few slot rec.core.clocks rec.levels 0 rec.core.ports pins.level in
      let last : length issue.happened ≤ 2 = by_few fixed.code (setting_of fixed slot pins before.rec) before.rec.core (picked before.rec.core slot) in
      omega (arith, length-append before.happened issue.happened, ap length grown, length-append edged.happened more, edges, few, last, ports)

  slot_there : HasShape rec → AllByRecursion NamesWhatIsThere (before.happened ++ issue.happened)
  slot_there shape =
      let S = Held rec.inputs in
      let (keeps, (more, grown, few, of), held) = before_issue_went fixed rec slot arrivals pins in
      let high : 0 + length rec.core.ports ≡ PORTS = omega (arith, shape.ports) in
      let within : AllByRecursion (IsWithin 0 PORTS) edged.happened = subst (λ n. AllByRecursion (IsWithin 0 n) edged.happened) high (edges_within slot rec.core.clocks rec.levels 0 rec.core.ports pins.level) in
      let edges = all_so (IsWithin 0 PORTS) NamesWhatIsThere edge_there edged.happened within in
      let others = all_so (IsOfSwitch S) NamesWhatIsThere (switch_there S shape.held) more of in
      let first : AllByRecursion NamesWhatIsThere before.happened = subst (AllByRecursion NamesWhatIsThere) (sym grown) (all_both NamesWhatIsThere edged.happened more edges others) in
      let threads : IsThread (picked before.rec.core slot) = picked_is_thread before.rec.core slot (ap length keeps.1 ∙ shape.threads) in
      all_both NamesWhatIsThere before.happened issue.happened first (by_there fixed.code (setting_of fixed slot pins before.rec) before.rec.core (picked before.rec.core slot) threads)

  slot_ports : length issue.core.ports ≡ length rec.core.ports
  slot_ports =
      let (keeps, grows, held) = before_issue_went fixed rec slot arrivals pins in
      by_as_many fixed.code (setting_of fixed slot pins before.rec) before.rec.core (picked before.rec.core slot)
      ∙ ap length keeps.2
      ∙ edges_as_many slot rec.core.clocks rec.levels 0 rec.core.ports pins.level

  slot_held : Held rec.inputs → Held before.rec.inputs
  slot_held held = let (keeps, grows, still) = before_issue_went fixed rec slot arrivals pins in still held

-- ---- The laws

pub slot_tells_driven : SlotTellsDriven
unfolding node_step
slot_tells_driven fixed rec slot arrivals pins p = sym (slot_tells fixed rec slot arrivals pins p).0

pub slot_tells_changes : SlotTellsChanges
unfolding node_step
slot_tells_changes fixed rec slot arrivals pins p = (slot_tells fixed rec slot arrivals pins p).1

idle_held : (n : ℕ) → Held (replicate n Idle)
idle_held zero = tt
idle_held (suc n) = (tt, idle_held n)

pub first_has_shape : FirstHasShape
first_has_shape entry cp_at memory links = record { ports = refl; threads = refl; held = idle_held INPUTS }

pub slot_keeps_shape : SlotKeepsShape
unfolding node_step
slot_keeps_shape fixed rec slot arrivals pins shape = record {
  ports = slot_ports fixed rec slot arrivals pins ∙ shape.ports;
  threads = slot_keeps_all fixed rec slot arrivals pins shape.threads;
  held = slot_held fixed rec slot arrivals pins shape.held;
}

few_events : (slot : Slot) (happened : List Happen) → length happened ≤ most_events → length (map (in_slot slot) happened) ≤ most_events
few_events slot happened few = omega (arith, few, length-map happened (in_slot slot))

pub slot_makes_few : SlotMakesFewEvents
unfolding node_step
slot_makes_few fixed rec slot arrivals pins shape = few_events slot _ (slot_few fixed rec slot arrivals pins shape.ports)

all_events : (slot : Slot) (happened : List Happen) → AllByRecursion NamesWhatIsThere happened → All IsWithinCounts (map (in_slot slot) happened)
all_events slot [] h = All-nil IsWithinCounts
all_events slot (x ∷ happened) h = All-cons IsWithinCounts (in_slot slot x) (map (in_slot slot) happened) h.0 (all_events slot happened h.1)

pub slot_names_there : SlotNamesWhatIsThere
unfolding node_step
slot_names_there fixed rec slot arrivals pins shape = all_events slot _ (slot_there fixed rec slot arrivals pins shape)

-- The events of each node of the serial machine stand by slot.
use Rattle.std.proofs.Common.{ℕ, zero, suc, ◌≡◌, ◌+◌, ◌≤◌, List, [], ◌∷◌, ◌++◌, refl, arith}
use Rattle.std.specs.Prelude.{slice_index_or, map, take}
use Rattle.std.specs.List.{AllByRecursion}
use Rattle.xs_base.specs.declared.entry.Entry.{Entry}
use Rattle.xs_model.specs.declared.event.Event.{Event}
use Rattle.xs_model.specs.declared.event.Happen.{Happen}
use Rattle.xs_model.specs.declared.outside.Arrivals.{Arrivals}
use Rattle.xs_model.specs.declared.outside.PinView.{PinView}
use Rattle.xs_model.specs.Outside.{in_slot}
use Rattle.xs_model.specs.Record.{NodeRec}
use Rattle.sys_plan.specs.declared.NodePlan.{NodePlan}
use Rattle.sys_plan.specs.Plan.{PlanRec}
use Rattle.step_model.specs.Fixed.{Fixed}
use Rattle.step_model.specs.Step.{Stepped, node_step}
use Rattle.serial_model.specs.Serial.{serial, steps_from, longer_events}
use Rattle.xs_model.specs.FirstEvents.{kept_at_most, first_events}
use Rattle.trace_model.specs.EventOrder.{told_at, RiseFrom}
use Rattle.trace_model.specs.Trace.{events_at}

-- from the first slot on, no event is in an earlier slot than the one before it, and none is after the last slot
abbrev Rise : ℕ → ℕ → List Event → Type 0
Rise first last [] = first ≤ last
Rise first last (e ∷ events) = (first ≤ e.slot) × Rise e.slot last events

later : (first last : ℕ) (events : List Event) → Rise first last events → Rise first (suc last) events
later first last [] h = omega (arith, h)
later first last (e ∷ events) h = (h.0, later e.slot last events h.1)

-- events of the last slot may follow
followed : (first last : ℕ) (events more : List Event) → Rise first last events → AllByRecursion (λ (e : Event). e.slot ≡ last) more → Rise first last (events ++ more)
followed first last (e ∷ events) more h all = (h.0, followed e.slot last events more h.1 all)
followed first last [] [] h all = h
followed first last [] (e ∷ more) h all =
    (omega (arith, h, all.0), followed e.slot last [] more (omega (arith, all.0)) all.1)

-- all that happens in a step is in its slot
told_in : (slot : ℕ) (all : List Happen) → AllByRecursion (λ (e : Event). e.slot ≡ slot) (map (in_slot slot) all)
told_in slot [] = tt
told_in slot (what ∷ all) = (refl, told_in slot all)

step_in : (fixed : Fixed) (rec : NodeRec) (slot : ℕ) (arrivals : Arrivals) (pins : PinView) → AllByRecursion (λ (e : Event). e.slot ≡ slot) (node_step fixed rec slot arrivals pins).emitted.events
unfolding node_step
step_in fixed rec slot arrivals pins = told_in slot _

steps_in : (plan : PlanRec) (histories : List (List Entry)) (slot n : ℕ) (nodes : List NodePlan) (recs : List NodeRec) → AllByRecursion (λ (s : Stepped). AllByRecursion (λ (e : Event). e.slot ≡ slot) s.emitted.events) (steps_from plan histories slot n nodes recs)
steps_in plan histories slot n [] recs = tt
steps_in plan histories slot n (node ∷ nodes) [] = tt
steps_in plan histories slot n (node ∷ nodes) (rec ∷ recs) =
    (step_in _ rec slot _ _, steps_in plan histories slot (n + 1) nodes recs)

longer : (slot : ℕ) (steps : List Stepped) (all : List (List Event)) → AllByRecursion (λ (s : Stepped). AllByRecursion (λ (e : Event). e.slot ≡ slot) s.emitted.events) steps → AllByRecursion (Rise 0 slot) all → AllByRecursion (Rise 0 (suc slot)) (longer_events steps all)
longer slot [] all h k = tt
longer slot (s ∷ steps) [] h k = tt
longer slot (s ∷ steps) (events ∷ all) h k =
    (later 0 slot _ (followed 0 slot events s.emitted.events k.0 h.0), longer slot steps all h.1 k.1)

none_yet : (nodes : List NodePlan) → AllByRecursion (Rise 0 0) (map (λ (node : NodePlan). []) nodes)
none_yet [] = tt
none_yet (node ∷ nodes) = (omega arith, none_yet nodes)

all_rise : (plan : PlanRec) (slots : ℕ) → AllByRecursion (Rise 0 slots) (serial plan slots).events
unfolding serial
all_rise plan zero = none_yet plan.nodes
all_rise plan (suc slot) = longer slot _ _ (steps_in plan _ slot 0 plan.nodes _) (all_rise plan slot)

-- an element of a list, or the empty list past its end
at_rise : (slots : ℕ) (all : List (List Event)) (k : ℕ) → AllByRecursion (Rise 0 slots) all → Rise 0 slots (slice_index_or all k [])
at_rise slots [] k h = omega arith
at_rise slots (events ∷ all) zero h = h.0
at_rise slots (events ∷ all) (suc k) h = at_rise slots all k h.1

-- so the kept events of a node, with its position, rise
told_rise : (k n first last : ℕ) (events : List Event) → Rise first last events → RiseFrom first (told_at k (take n events))
told_rise k zero first last events h = tt
told_rise k (suc n) first last [] h = tt
told_rise k (suc n) first last (e ∷ events) h = (h.0, told_rise k n e.slot last events h.1)

pub node_rise : (plan : PlanRec) (slots k : ℕ) → RiseFrom 0 (told_at k (first_events (events_at (serial plan slots) k)))
node_rise plan slots k = told_rise k kept_at_most 0 slots _ (at_rise slots (serial plan slots).events k (all_rise plan slots))

-- How many nodes and events there are, and that the events of a slot are few.
use Rattle.std.proofs.Common.{◌≡◌, zero, suc, ◌+◌, ◌*◌, ◌≤◌, List, [], ◌∷◌, length, map, refl, ap, ◌∙◌, arith, length-append}
use Rattle.std.specs.List.{AllByRecursion}
use Rattle.std.proofs.lemmas.List.{length-map}
use Rattle.xs_base.specs.Numbers.{Slot, Position}
use Rattle.xs_base.specs.declared.entry.Entry.{Entry}
use Rattle.xs_model.specs.declared.event.Event.{Event}
use Rattle.xs_model.specs.Record.{NodeRec}
use Rattle.sys_plan.specs.declared.NodePlan.{NodePlan}
use Rattle.sys_plan.specs.Plan.{PlanRec, Arc, arcs, arc_count}
use Rattle.step_model.specs.Step.{Stepped}
use Rattle.step_laws.specs.Shape.{HasShape, most_events}
use Rattle.step_laws.proofs.SlotEvents.{first_has_shape, slot_keeps_shape, slot_makes_few}
use Rattle.serial_model.specs.Serial.{nodes_at_start, serial, steps_from, steps_of, longer_events, longer_histories}

-- ---- Counts

start_count : (plan : PlanRec) (n : Position) (nodes : List NodePlan) → length (nodes_at_start plan n nodes) ≡ length nodes
start_count plan n [] = refl
start_count plan n (node ∷ nodes) = ap suc (start_count plan (n + 1) nodes)

steps_count : (plan : PlanRec) (histories : List (List Entry)) (slot : Slot) (n : Position) (nodes : List NodePlan) (recs : List NodeRec) → length recs ≡ length nodes
    → length (steps_from plan histories slot n nodes recs) ≡ length nodes
steps_count plan histories slot n [] recs e = refl
steps_count plan histories slot n (node ∷ nodes) [] e = absurd (omega (arith, e))
steps_count plan histories slot n (node ∷ nodes) (rec ∷ recs) e = ap suc (steps_count plan histories slot (n + 1) nodes recs (omega (arith, e)))

more_count : (steps : List Stepped) (all : List (List Event)) → length all ≡ length steps → length (longer_events steps all) ≡ length steps
more_count [] all e = refl
more_count (s ∷ steps) [] e = absurd (omega (arith, e))
more_count (s ∷ steps) (events ∷ all) e = ap suc (more_count steps all (omega (arith, e)))

longer_count : (slot : Slot) (nodes : List NodeRec) (steps : List Stepped) (ds : List Arc) (histories : List (List Entry)) → length histories ≡ length ds
    → length (longer_histories slot nodes steps ds histories) ≡ length ds
longer_count slot nodes steps [] histories e = refl
longer_count slot nodes steps (d ∷ ds) [] e = absurd (omega (arith, e))
longer_count slot nodes steps (d ∷ ds) (h ∷ histories) e = ap suc (longer_count slot nodes steps ds histories (omega (arith, e)))

module _ (plan : PlanRec) where
  pub nodes_count : (slot : Slot) → length (serial plan slot).nodes ≡ length plan.nodes
  unfolding serial
  nodes_count zero = start_count plan 0 plan.nodes
  nodes_count (suc slot) =
      length-map (steps_of plan slot (serial plan slot)) (λ (s : Stepped). s.rec)
      ∙ steps_count plan (serial plan slot).histories slot 0 plan.nodes (serial plan slot).nodes (nodes_count slot)

  pub events_count : (slot : Slot) → length (serial plan slot).events ≡ length plan.nodes
  unfolding serial
  events_count zero = length-map plan.nodes (λ (node : NodePlan). [])
  events_count (suc slot) =
      let stepped = steps_count plan (serial plan slot).histories slot 0 plan.nodes (serial plan slot).nodes (nodes_count slot) in
      more_count (steps_of plan slot (serial plan slot)) (serial plan slot).events (omega (arith, events_count slot, stepped)) ∙ stepped

  pub histories_count : (slot : Slot) → length (serial plan slot).histories ≡ arc_count plan
  unfolding serial
  histories_count zero = length-map (arcs plan) (λ (d : Arc). [])
  histories_count (suc slot) = longer_count slot (serial plan slot).nodes (steps_of plan slot (serial plan slot)) (arcs plan) (serial plan slot).histories (histories_count slot)

-- ---- Events

-- the steps of nodes that have their shape
pub record IsFew (s : Stepped) : Type 0 where
  pub shape : HasShape s.rec
  pub few : length s.emitted.events ≤ most_events

module _ (plan : PlanRec) where
  start_shape : (n : Position) (nodes : List NodePlan) → AllByRecursion HasShape (nodes_at_start plan n nodes)
  start_shape n [] = tt
  start_shape n (node ∷ nodes) = (first_has_shape _ _ _ _, start_shape (n + 1) nodes)

  steps_few : (histories : List (List Entry)) (slot : Slot) (n : Position) (nodes : List NodePlan) (recs : List NodeRec) → AllByRecursion HasShape recs
      → AllByRecursion IsFew (steps_from plan histories slot n nodes recs)
  steps_few histories slot n [] recs h = tt
  steps_few histories slot n (node ∷ nodes) [] h = tt
  steps_few histories slot n (node ∷ nodes) (rec ∷ recs) h = (
    record { shape = slot_keeps_shape _ rec slot _ _ h.0; few = slot_makes_few _ rec slot _ _ h.0 },
    steps_few histories slot (n + 1) nodes recs h.1,
  )

  shapes_of : (steps : List Stepped) → AllByRecursion IsFew steps → AllByRecursion HasShape (map (λ (s : Stepped). s.rec) steps)
  shapes_of [] h = tt
  shapes_of (s ∷ steps) h = (h.0.shape, shapes_of steps h.1)

  nodes_shape : (slot : Slot) → AllByRecursion HasShape (serial plan slot).nodes
  unfolding serial
  nodes_shape zero = start_shape 0 plan.nodes
  nodes_shape (suc slot) = shapes_of (steps_of plan slot (serial plan slot)) (steps_few (serial plan slot).histories slot 0 plan.nodes (serial plan slot).nodes (nodes_shape slot))

  -- so many events at most before a slot
  abbrev pub AreFew : Slot → List (List Event) → Type 0
  AreFew slot all = AllByRecursion (λ (events : List Event). length events ≤ most_events * slot) all

  none_yet : (nodes : List NodePlan) → AreFew 0 (map (λ (node : NodePlan). []) nodes)
  none_yet [] = tt
  none_yet (node ∷ nodes) = (omega arith, none_yet nodes)

  more_few : (slot : Slot) (steps : List Stepped) (all : List (List Event)) → AllByRecursion IsFew steps → AreFew slot all → AreFew (suc slot) (longer_events steps all)
  more_few slot [] all h k = tt
  more_few slot (s ∷ steps) [] h k = tt
  more_few slot (s ∷ steps) (events ∷ all) h k =
      (omega (arith, length-append events s.emitted.events, h.0.few, k.0), more_few slot steps all h.1 k.1)

  pub events_few : (slot : Slot) → AreFew slot (serial plan slot).events
  unfolding serial
  events_few zero = none_yet plan.nodes
  events_few (suc slot) =
      more_few slot (steps_of plan slot (serial plan slot)) (serial plan slot).events
      (steps_few (serial plan slot).histories slot 0 plan.nodes (serial plan slot).nodes (nodes_shape slot)) (events_few slot)

-- Before every slot the ports of each node drive what the node's events say.
use Rattle.std.proofs.Common.{◌≡◌, ℕ, zero, suc, ◌+◌, ◌<◌, Option, None, List, [], ◌∷◌, ◌++◌, map, get_or, replicate, refl, sym, ap, ◌∙◌, subst, arith}
use Rattle.std.proofs.lemmas.Bool.{eq-eqb, ne_eqb}
use Rattle.std.specs.List.{AllByRecursion}
use Rattle.xs_base.specs.Numbers.{Slot, Word, Position, PortNumber}
use Rattle.xs_base.specs.declared.entry.Entry.{Entry}
use Rattle.xs_model.specs.declared.event.Event.{Event}
use Rattle.xs_model.specs.declared.event.Happen.{Happen}
use Rattle.xs_model.specs.declared.outside.Arrivals.{Arrivals}
use Rattle.xs_model.specs.declared.outside.PinView.{PinView}
use Rattle.xs_model.specs.Outside.{in_slot}
use Rattle.xs_model.specs.Record.{NodeRec, off_port, port_of, first_node}
use Rattle.sys_plan.specs.declared.NodePlan.{NodePlan}
use Rattle.sys_plan.specs.Plan.{PlanRec, gaps_of}
use Rattle.step_model.specs.Fixed.{Fixed}
use Rattle.step_model.specs.Start.{node_of}
use Rattle.step_model.specs.Step.{Stepped, node_step}
use Rattle.step_laws.specs.Pins.{driven_then, driven_after, TellChanges, SlotTellsDriven, SlotTellsChanges}
use Rattle.serial_model.specs.Serial.{nodes_at_start, serial, steps_from, longer_events}
use Rattle.pin_laws.specs.Pins.{driven_by, events_at, of_slot, PinsAreTold, PinEventsAreChanges, ChangesAreInTheirSlot}

-- ---- Events and further ones

driven_on : (p : PortNumber) (before : Option Word) (events more : List Event) → driven_after p before (events ++ more) ≡ driven_after p (driven_after p before events) more
driven_on p before [] more = refl
driven_on p before (e ∷ events) more = driven_on p (driven_then p before e.what) events more

changes_on : (p : PortNumber) (before : Option Word) (events more : List Event) → TellChanges p before events → TellChanges p (driven_after p before events) more → TellChanges p before (events ++ more)
changes_on p before [] more h k = k
changes_on p before (e ∷ events) more h k = (h.0, changes_on p (driven_then p before e.what) events more h.1 k)

-- ---- Their slots

abbrev AllBefore : Slot → List Event → Type 0
AllBefore slot events = AllByRecursion (λ (e : Event). e.slot < slot) events

abbrev AllIn : Slot → List Event → Type 0
AllIn slot events = AllByRecursion (λ (e : Event). e.slot ≡ slot) events

all_later : (slot : Slot) (events more : List Event) → AllBefore slot events → AllIn slot more → AllBefore (suc slot) (events ++ more)
all_later slot (e ∷ events) more h k = (omega (arith, h.0), all_later slot events more h.1 k)
all_later slot [] [] h k = tt
all_later slot [] (e ∷ more) h k = (omega (arith, k.0), all_later slot [] more tt k.1)

none_of_slot : (slot : Slot) (events more : List Event) → AllBefore slot events → of_slot slot (events ++ more) ≡ of_slot slot more
none_of_slot slot [] more h = refl
none_of_slot slot (e ∷ events) more h =
    rw (ne_eqb e.slot slot (λ same. omega (arith, same, h.0))) (none_of_slot slot events more h.1)

all_of_slot : (slot : Slot) (events : List Event) → AllIn slot events → of_slot slot events ≡ events
all_of_slot slot [] h = refl
all_of_slot slot (e ∷ events) h = rw (eq-eqb e.slot slot h.0) (ap (λ l. e ∷ l) (all_of_slot slot events h.1))

events_in : (slot : Slot) (happened : List Happen) → AllIn slot (map (in_slot slot) happened)
events_in slot [] = tt
events_in slot (what ∷ happened) = (refl, events_in slot happened)

step_in : (fixed : Fixed) (rec : NodeRec) (slot : Slot) (arrivals : Arrivals) (pins : PinView) → AllIn slot (node_step fixed rec slot arrivals pins).emitted.events
unfolding node_step
step_in fixed rec slot arrivals pins = events_in slot _

-- ---- One node

-- what holds of a node and its events before a slot
record IsTold (slot : Slot) (rec : NodeRec) (events : List Event) : Type 0 where
  driven : (p : PortNumber) → (port_of rec.core p).driven ≡ driven_by p events
  changes : (p : PortNumber) → TellChanges p None events
  before : AllBefore slot events

off_drives : (n p : ℕ) → (get_or (replicate n off_port) p off_port).driven ≡ None
off_drives zero p = refl
off_drives (suc n) zero = refl
off_drives (suc n) (suc p) = off_drives n p

start_told : (node : NodePlan) (gaps : List ℕ) → IsTold 0 (node_of node gaps) []
start_told node gaps = record { driven = λ p. off_drives 29 p; changes = λ p. tt; before = tt }

none_told : (slot : Slot) → IsTold slot (first_node 0 0 []) []
none_told slot = record { driven = λ p. off_drives 29 p; changes = λ p. tt; before = tt }

module _ (driven : SlotTellsDriven) (changes : SlotTellsChanges) where
  step_told : (fixed : Fixed) (rec : NodeRec) (slot : Slot) (arrivals : Arrivals) (pins : PinView) (events : List Event) → IsTold slot rec events → let after = node_step fixed rec slot arrivals pins in IsTold (suc slot) after.rec (events ++ after.emitted.events)
  step_told fixed rec slot arrivals pins events told =
      let new = (node_step fixed rec slot arrivals pins).emitted.events in
      record {
        driven = λ p. driven fixed rec slot arrivals pins p ∙ ap (λ d. driven_after p d new) (told.driven p) ∙ sym (driven_on p None events new);
        changes = λ p. changes_on p None events new (told.changes p) (subst (λ d. TellChanges p d new) (told.driven p) (changes fixed rec slot arrivals pins p));
        before = all_later slot events new told.before (step_in fixed rec slot arrivals pins);
      }

  -- what a port drives after a slot follows by the events of the slot
  step_of_slot : (fixed : Fixed) (rec : NodeRec) (slot : Slot) (arrivals : Arrivals) (pins : PinView) (events : List Event) (p : PortNumber) → IsTold slot rec events → let after = node_step fixed rec slot arrivals pins in (port_of after.rec.core p).driven ≡ driven_after p (port_of rec.core p).driven (of_slot slot (events ++ after.emitted.events))
  step_of_slot fixed rec slot arrivals pins events p told =
      let new = (node_step fixed rec slot arrivals pins).emitted.events in
      let same : of_slot slot (events ++ new) ≡ new = none_of_slot slot events new told.before ∙ all_of_slot slot new (step_in fixed rec slot arrivals pins) in
      driven fixed rec slot arrivals pins p ∙ ap (λ l. driven_after p (port_of rec.core p).driven l) (sym same)

  -- ---- All nodes: plans, records and events side by side

  abbrev AllTold : Slot → List NodePlan → List NodeRec → List (List Event) → Type 0
  AllTold slot (node ∷ nodes) (rec ∷ recs) (events ∷ all) = IsTold slot rec events × AllTold slot nodes recs all
  AllTold slot [] [] [] = Unit {0}
  AllTold slot _ _ _ = ⊥

  start_all : (plan : PlanRec) (n : Position) (nodes : List NodePlan) → AllTold 0 nodes (nodes_at_start plan n nodes) (map (λ (node : NodePlan). []) nodes)
  start_all plan n [] = tt
  start_all plan n (node ∷ nodes) = (start_told node (gaps_of plan n), start_all plan (n + 1) nodes)

  abbrev recs_of : List Stepped → List NodeRec
  recs_of steps = map (λ (s : Stepped). s.rec) steps

  module _ (plan : PlanRec) (histories : List (List Entry)) (slot : Slot) where
    steps_all : (n : Position) (nodes : List NodePlan) (recs : List NodeRec) (all : List (List Event)) → AllTold slot nodes recs all → let steps = steps_from plan histories slot n nodes recs in AllTold (suc slot) nodes (recs_of steps) (longer_events steps all)
    steps_all n (node ∷ nodes) (rec ∷ recs) (events ∷ all) told =
        (step_told _ rec slot _ _ events told.0, steps_all (n + 1) nodes recs all told.1)
    steps_all n [] [] [] told = tt
    steps_all n [] [] (events ∷ all) told = absurd told
    steps_all n [] (rec ∷ recs) all told = absurd told
    steps_all n (node ∷ nodes) [] all told = absurd told
    steps_all n (node ∷ nodes) (rec ∷ recs) [] told = absurd told

    steps_of_slot : (n : Position) (nodes : List NodePlan) (recs : List NodeRec) (all : List (List Event)) (i : ℕ) (p : PortNumber) → AllTold slot nodes recs all → let steps = steps_from plan histories slot n nodes recs in (port_of (get_or (recs_of steps) i (first_node 0 0 [])).core p).driven ≡ driven_after p (port_of (get_or recs i (first_node 0 0 [])).core p).driven (of_slot slot (get_or (longer_events steps all) i []))
    steps_of_slot n (node ∷ nodes) (rec ∷ recs) (events ∷ all) zero p told = step_of_slot _ rec slot _ _ events p told.0
    steps_of_slot n (node ∷ nodes) (rec ∷ recs) (events ∷ all) (suc i) p told = steps_of_slot (n + 1) nodes recs all i p told.1
    steps_of_slot n [] [] [] i p told = refl
    steps_of_slot n [] [] (events ∷ all) i p told = absurd told
    steps_of_slot n [] (rec ∷ recs) all i p told = absurd told
    steps_of_slot n (node ∷ nodes) [] all i p told = absurd told
    steps_of_slot n (node ∷ nodes) (rec ∷ recs) [] i p told = absurd told

  at_told : (slot : Slot) (nodes : List NodePlan) (recs : List NodeRec) (all : List (List Event)) (i : ℕ) → AllTold slot nodes recs all → IsTold slot (get_or recs i (first_node 0 0 [])) (get_or all i [])
  at_told slot (node ∷ nodes) (rec ∷ recs) (events ∷ all) zero told = told.0
  at_told slot (node ∷ nodes) (rec ∷ recs) (events ∷ all) (suc i) told = at_told slot nodes recs all i told.1
  at_told slot [] [] [] i told = none_told slot
  at_told slot [] [] (events ∷ all) i told = absurd told
  at_told slot [] (rec ∷ recs) all i told = absurd told
  at_told slot (node ∷ nodes) [] all i told = absurd told
  at_told slot (node ∷ nodes) (rec ∷ recs) [] i told = absurd told

  -- ---- Every slot

  all_told : (plan : PlanRec) (slots : Slot) → AllTold slots plan.nodes (serial plan slots).nodes (serial plan slots).events
  unfolding serial
  all_told plan zero = start_all plan 0 plan.nodes
  all_told plan (suc slot) =
      let before = serial plan slot in
      steps_all plan before.histories slot 0 plan.nodes before.nodes before.events (all_told plan slot)

  node_told : (plan : PlanRec) (slots : Slot) (n : Position) → IsTold slots (get_or (serial plan slots).nodes n (first_node 0 0 [])) (events_at (serial plan slots) n)
  node_told plan slots n = at_told slots plan.nodes (serial plan slots).nodes (serial plan slots).events n (all_told plan slots)

  pub pins_told : PinsAreTold
  pins_told plan slots n p = (node_told plan slots n).driven p

  pub changes_told : PinEventsAreChanges
  changes_told plan slots n p = (node_told plan slots n).changes p

  pub in_their_slot : ChangesAreInTheirSlot
  unfolding serial
  in_their_slot plan slot n p =
      let before = serial plan slot in
      steps_of_slot plan before.histories slot 0 plan.nodes before.nodes before.events n p (all_told plan slot)

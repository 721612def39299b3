-- The steps of a slot: what they leave of nodes, histories and events.
use Rattle.std.proofs.Common.{ℕ, zero, suc, ◌≡◌, ◌+◌, ◌==◌, Option, Some, None, List, [], ◌∷◌, ◌++◌, length, map, get_or, refl, ap, subst, arith}
use Rattle.std.specs.Prelude.{IfSome}
use Rattle.std.specs.List.{AllByRecursion, AllZip}
use Rattle.std.proofs.lemmas.Bool.{cond_both}
use Rattle.std.proofs.lemmas.List.{append_assoc}
use Rattle.xs_base.specs.Numbers.{Slot, Word, Position, EndNumber}
use Rattle.xs_base.specs.declared.entry.Entry.{Entry}
use Rattle.xs_model.specs.declared.event.Event.{Event}
use Rattle.xs_model.specs.declared.event.Happen.{Happen}
use Rattle.xs_model.specs.declared.outside.Arrivals.{Arrivals}
use Rattle.xs_model.specs.declared.outside.PinView.{PinView}
use Rattle.xs_model.specs.Outside.{Emitted, in_slot, emitted_events}
use Rattle.xs_model.specs.Ports.{level_of}
use Rattle.xs_model.specs.Record.{NodeRec, LinkRec, port_of}
use Rattle.net_model.specs.Links.{fresh_link, IsLinkBefore}
use Rattle.sys_plan.specs.declared.NodePlan.{NodePlan}
use Rattle.sys_plan.specs.Plan.{PlanRec, Arc, Joined, gaps_of}
use Rattle.step_model.specs.Fixed.{Fixed}
use Rattle.step_model.specs.Start.{fixed_of, link_with_gap}
use Rattle.step_model.specs.Step.{Stepped, node_step}
use Rattle.serial_model.specs.Serial.{Coming, coming_on, step_by, steps_from_on, nodes_at_start, node_by, emitted_by, sent_by, level_entries, carried_by, carried, longer_histories, longer_events}
use Rattle.link_laws.specs.Windows.{NodesAlike, StepsAlike, IsNodeBefore}
use Rattle.link_laws.proofs.TravelLists.{all-append, before-append, ascend-append}
use Rattle.link_laws.proofs.WindowStep.{step_by_windows, step_stays_before}
use Rattle.locality_laws.proofs.Entries.{AllIn, carried_has}
use Rattle.rest_laws.proofs.Lists.{joined}
use Rattle.rest_laws.proofs.Events.{AreEarlier}
use Rattle.rest_laws.proofs.Histories.{IsSteady}

-- ---- Link ends keep slots that are past

gap_before : (gap : ℕ) → IfSome (link_with_gap gap) (IsLinkBefore 0)
gap_before gap =
    cond_both (gap == 0) None (Some fresh_link) (λ (link : Option LinkRec). IfSome link (IsLinkBefore 0)) (λ none. tt) (λ some. record { sent = tt; credited = tt })

gaps_before : (gaps : List ℕ) → AllByRecursion (λ link. IfSome link (IsLinkBefore 0)) (map link_with_gap gaps)
gaps_before [] = tt
gaps_before (gap ∷ gaps) = (gap_before gap, gaps_before gaps)

pub start_before : (plan : PlanRec) (n : Position) (nodes : List NodePlan) → AllByRecursion (IsNodeBefore 0) (nodes_at_start plan n nodes)
start_before plan n [] = tt
start_before plan n (node ∷ nodes) = (gaps_before (gaps_of plan n), start_before plan (n + 1) nodes)

pub start_many : (plan : PlanRec) (n : Position) (nodes : List NodePlan) → length (nodes_at_start plan n nodes) ≡ length nodes
start_many plan n [] = refl
start_many plan n (node ∷ nodes) = ap suc (start_many plan (n + 1) nodes)

-- ---- The steps of all nodes in a slot

told_in : (slot : ℕ) (all : List Happen) → AllByRecursion (λ (e : Event). e.slot ≡ slot) (map (in_slot slot) all)
told_in slot [] = tt
told_in slot (what ∷ all) = (refl, told_in slot all)

step_told : (fixed : Fixed) (rec : NodeRec) (slot : ℕ) (arrivals : Arrivals) (pins : PinView) → AllByRecursion (λ (e : Event). e.slot ≡ slot) (node_step fixed rec slot arrivals pins).emitted.events
unfolding node_step
step_told fixed rec slot arrivals pins = told_in slot _

abbrev pub AllTold : (Event → Type 0) → List Stepped → Type 0
AllTold P steps = AllByRecursion (λ (s : Stepped). AllByRecursion P s.emitted.events) steps

module _ (shown : List Word) (plan : PlanRec) (histories : List (List Entry)) (slot : Slot) where
  pub steps_told : (n : Position) (nodes : List NodePlan) (recs : List NodeRec) → AllTold (λ (e : Event). e.slot ≡ slot) (steps_from_on shown plan histories slot n nodes recs)
  steps_told n [] recs = tt
  steps_told n (node ∷ nodes) [] = tt
  steps_told n (node ∷ nodes) (rec ∷ recs) = (step_told _ rec slot _ _, steps_told (n + 1) nodes recs)

  pub steps_many : (n : Position) (nodes : List NodePlan) (recs : List NodeRec) → length recs ≡ length nodes → length (steps_from_on shown plan histories slot n nodes recs) ≡ length nodes
  steps_many n [] recs h = refl
  steps_many n (node ∷ nodes) [] h = absurd (omega (arith, h))
  steps_many n (node ∷ nodes) (rec ∷ recs) h = ap suc (steps_many (n + 1) nodes recs (omega (arith, h)))

  pub steps_before : (n : Position) (nodes : List NodePlan) (recs : List NodeRec) → AllByRecursion (IsNodeBefore slot) recs → AllByRecursion (IsNodeBefore (suc slot)) (map (λ (s : Stepped). s.rec) (steps_from_on shown plan histories slot n nodes recs))
  steps_before n [] recs h = tt
  steps_before n (node ∷ nodes) [] h = tt
  steps_before n (node ∷ nodes) (rec ∷ recs) h =
      let coming = coming_on shown plan histories slot n in
      let next : slot + 1 ≡ suc slot = omega arith in (
        subst (λ (s : Slot). IsNodeBefore s (step_by plan n node slot coming rec).rec) next (step_stays_before (fixed_of node (gaps_of plan n)) rec slot coming.arrivals coming.pins h.0),
        steps_before (n + 1) nodes recs h.1,
      )

-- of nodes that are alike, to which the same comes
module _ (plan : PlanRec) (slot : Slot) (shown others : List Word) (histories rests : List (List Entry)) (same : (n : Position) → coming_on shown plan histories slot n ≡ coming_on others plan rests slot n) where
  pub steps_alike : (n : Position) (nodes : List NodePlan) (recs alike : List NodeRec) → AllByRecursion (IsNodeBefore slot) recs → AllByRecursion (IsNodeBefore slot) alike → AllZip NodesAlike recs alike
      → AllZip StepsAlike (steps_from_on shown plan histories slot n nodes recs) (steps_from_on others plan rests slot n nodes alike)
  steps_alike n [] recs alike one two h = tt
  steps_alike n (node ∷ nodes) [] [] one two h = tt
  steps_alike n (node ∷ nodes) [] (other ∷ alike) one two h = absurd h
  steps_alike n (node ∷ nodes) (rec ∷ recs) [] one two h = absurd h
  steps_alike n (node ∷ nodes) (rec ∷ recs) (other ∷ alike) one two h =
      let coming = coming_on shown plan histories slot n in (
        subst (λ (c : Coming). StepsAlike (step_by plan n node slot coming rec) (step_by plan n node slot c other)) (same n)
            (step_by_windows (fixed_of node (gaps_of plan n)) rec other slot coming.arrivals coming.pins one.0 two.0 h.0),
        steps_alike (n + 1) nodes recs alike one.1 two.1 h.1,
      )

-- ---- What alike steps leave

pub recs_alike : (steps others : List Stepped) → AllZip StepsAlike steps others → AllZip NodesAlike (map (λ (s : Stepped). s.rec) steps) (map (λ (s : Stepped). s.rec) others)
recs_alike [] [] h = tt
recs_alike [] (o ∷ others) h = absurd h
recs_alike (s ∷ steps) [] h = absurd h
recs_alike (s ∷ steps) (o ∷ others) h = (h.0.alike, recs_alike steps others h.1)

emitted_same : (steps others : List Stepped) → AllZip StepsAlike steps others → map (λ (s : Stepped). s.emitted) steps ≡ map (λ (s : Stepped). s.emitted) others
emitted_same [] [] h = refl
emitted_same [] (o ∷ others) h = absurd h
emitted_same (s ∷ steps) [] h = absurd h
emitted_same (s ∷ steps) (o ∷ others) h = λ i. h.0.emitted i ∷ emitted_same steps others h.1 i

pub core_at : (recs others : List NodeRec) (k : Position) → AllZip NodesAlike recs others → (node_by recs k).core ≡ (node_by others k).core
core_at [] [] k h = refl
core_at [] (other ∷ others) k h = absurd h
core_at (rec ∷ recs) [] k h = absurd h
core_at (rec ∷ recs) (other ∷ others) zero h = h.0.core
core_at (rec ∷ recs) (other ∷ others) (suc k) h = core_at recs others k h.1

carried_same : (slot : Slot) (before after other_before other_after : NodeRec) (emitted other : Emitted) (end : EndNumber) (joins : Option Joined) → before.core ≡ other_before.core → after.core ≡ other_after.core → emitted ≡ other
    → carried_by slot before after emitted end joins ≡ carried_by slot other_before other_after other end joins
carried_same slot before after other_before other_after emitted other end None one two same = ap (λ (e : Emitted). sent_by slot e end) same
carried_same slot before after other_before other_after emitted other end (Some joined) one two same =
    λ i. level_entries slot (level_of (port_of (one i) joined.from_port).driven 0) (level_of (port_of (two i) joined.from_port).driven 0)

module _ (slot : Slot) (nodes other_nodes : List NodeRec) (steps others : List Stepped) (alike : AllZip NodesAlike nodes other_nodes) (steps_are : AllZip StepsAlike steps others) where
  carried_alike : (d : Arc) → carried slot nodes steps d ≡ carried slot other_nodes others d
  carried_alike d =
      carried_same slot (node_by nodes d.from) (node_by (map (λ (s : Stepped). s.rec) steps) d.from) (node_by other_nodes d.from) (node_by (map (λ (s : Stepped). s.rec) others) d.from)
      (emitted_by steps d.from) (emitted_by others d.from) d.from_end d.joins
      (core_at nodes other_nodes d.from alike) (core_at _ _ d.from (recs_alike steps others steps_are))
      (ap (λ (all : List Emitted). get_or all d.from (emitted_events [])) (emitted_same steps others steps_are))

  pub histories_alike : (ds : List Arc) (histories : List (List Entry)) → longer_histories slot nodes steps ds histories ≡ longer_histories slot other_nodes others ds histories
  histories_alike [] histories = refl
  histories_alike (d ∷ ds) [] = refl
  histories_alike (d ∷ ds) (history ∷ histories) = λ i. (history ++ carried_alike d i) ∷ histories_alike ds histories i

pub events_alike : (steps others : List Stepped) (all : List (List Event)) → AllZip StepsAlike steps others → longer_events steps all ≡ longer_events others all
events_alike [] [] all h = refl
events_alike [] (o ∷ others) all h = absurd h
events_alike (s ∷ steps) [] all h = absurd h
events_alike (s ∷ steps) (o ∷ others) [] h = refl
events_alike (s ∷ steps) (o ∷ others) (events ∷ all) h = λ i. (events ++ (h.0.emitted i).events) ∷ events_alike steps others all h.1 i

-- ---- Histories and events that go on

module _ (slot : Slot) (nodes : List NodeRec) (steps : List Stepped) where
  pub histories_joined : (ds : List Arc) (old later : List (List Entry)) → longer_histories slot nodes steps ds (joined old later) ≡ joined old (longer_histories slot nodes steps ds later)
  histories_joined [] [] later = refl
  histories_joined [] (history ∷ old) later = refl
  histories_joined (d ∷ ds) [] later = refl
  histories_joined (d ∷ ds) (history ∷ old) [] = refl
  histories_joined (d ∷ ds) (history ∷ old) (more ∷ later) = λ i. append_assoc history more (carried slot nodes steps d) i ∷ histories_joined ds old later i

  carried_in : (d : Arc) → AllIn slot (carried slot nodes steps d)
  carried_in d = carried_has slot (node_by nodes d.from) (node_by (map (λ (s : Stepped). s.rec) steps) d.from) (emitted_by steps d.from) d.from_end d.joins

  pub histories_many : (ds : List Arc) (histories : List (List Entry)) → length histories ≡ length ds → length (longer_histories slot nodes steps ds histories) ≡ length ds
  histories_many [] histories h = refl
  histories_many (d ∷ ds) [] h = absurd (omega (arith, h))
  histories_many (d ∷ ds) (history ∷ histories) h = ap suc (histories_many ds histories (omega (arith, h)))

  pub histories_steady : (ds : List Arc) (histories : List (List Entry)) → AllByRecursion (IsSteady slot) histories → AllByRecursion (IsSteady (suc slot)) (longer_histories slot nodes steps ds histories)
  histories_steady [] histories h = tt
  histories_steady (d ∷ ds) [] h = tt
  histories_steady (d ∷ ds) (history ∷ histories) h = (
    record {
      before = before-append slot history (carried slot nodes steps d) h.0.before (carried_in d);
      order = ascend-append slot history (carried slot nodes steps d) h.0.order h.0.before (carried_in d);
    },
    histories_steady ds histories h.1,
  )

  pub histories_all : (P : Entry → Type 0) → ((e : Entry) → e.slot ≡ slot → P e) → (ds : List Arc) (histories : List (List Entry)) → AllByRecursion (AllByRecursion P) histories → AllByRecursion (AllByRecursion P) (longer_histories slot nodes steps ds histories)
  histories_all P now [] histories h = tt
  histories_all P now (d ∷ ds) [] h = tt
  histories_all P now (d ∷ ds) (history ∷ histories) h = (all-append P history (carried slot nodes steps d) h.0 (each (carried slot nodes steps d) (carried_in d)), histories_all P now ds histories h.1)
    where
      each : (es : List Entry) → AllIn slot es → AllByRecursion P es
      each [] h = tt
      each (e ∷ es) h = (now e h.0, each es h.1)

pub events_joined : (steps : List Stepped) (old later : List (List Event)) → longer_events steps (joined old later) ≡ joined old (longer_events steps later)
events_joined [] [] later = refl
events_joined [] (events ∷ old) later = refl
events_joined (s ∷ steps) [] later = refl
events_joined (s ∷ steps) (events ∷ old) [] = refl
events_joined (s ∷ steps) (events ∷ old) (more ∷ later) = λ i. append_assoc events more s.emitted.events i ∷ events_joined steps old later i

pub events_many : (steps : List Stepped) (all : List (List Event)) (count : ℕ) → length steps ≡ count → length all ≡ count → length (longer_events steps all) ≡ count
events_many [] all count h k = h
events_many (s ∷ steps) [] count h k = absurd (omega (arith, h, k))
events_many (s ∷ steps) (events ∷ all) zero h k = absurd (omega (arith, h))
events_many (s ∷ steps) (events ∷ all) (suc count) h k = ap suc (events_many steps all count (omega (arith, h)) (omega (arith, k)))

pub events_all : (P : Event → Type 0) (slot : Slot) → ((e : Event) → e.slot ≡ slot → P e) → (steps : List Stepped) (all : List (List Event)) → AllTold (λ (e : Event). e.slot ≡ slot) steps → AllByRecursion (AllByRecursion P) all → AllByRecursion (AllByRecursion P) (longer_events steps all)
events_all P slot now [] all told h = tt
events_all P slot now (s ∷ steps) [] told h = tt
events_all P slot now (s ∷ steps) (events ∷ all) told h = (all-append P events s.emitted.events h.0 (each s.emitted.events told.0), events_all P slot now steps all told.1 h.1)
  where
    each : (es : List Event) → AllByRecursion (λ (e : Event). e.slot ≡ slot) es → AllByRecursion P es
    each [] h = tt
    each (e ∷ es) h = (now e h.0, each es h.1)

-- events before a slot are before the next
pub earlier_still : (slot : Slot) (all : List (List Event)) → AllByRecursion (AreEarlier slot) all → AllByRecursion (AreEarlier (suc slot)) all
earlier_still slot [] h = tt
earlier_still slot (events ∷ all) h = (each events h.0, earlier_still slot all h.1)
  where
    each : (es : List Event) → AreEarlier slot es → AreEarlier (suc slot) es
    each [] h = tt
    each (e ∷ es) h = (omega (arith, h.0), each es h.1)

-- A system that begins with what the serial machine has come to before a slot, nodes alike those of the serial machine and what is in flight,
-- goes along with the serial machine.
use Rattle.std.proofs.Common.{ℕ, zero, suc, ◌≡◌, ◌+◌, ◌<◌, ◌≤◌, Option, Some, None, List, [], ◌∷◌, length, map, refl, ap, sym, subst, ◌∙◌, arith}
use Rattle.std.specs.List.{AllByRecursion, AllZip}
use Rattle.std.proofs.lemmas.List.{append-nil, length-map}
use Rattle.xs_base.specs.Numbers.{Slot, Word, Position}
use Rattle.xs_base.specs.declared.entry.Entry.{Entry}
use Rattle.xs_model.specs.declared.event.Event.{Event}
use Rattle.xs_model.specs.Record.{NodeRec}
use Rattle.pin_scripts.specs.Script.{port_numbers}
use Rattle.sys_plan.specs.declared.NodePlan.{NodePlan}
use Rattle.sys_plan.specs.Plan.{PlanRec, Arc, arcs, incoming, wire_to, delay_of}
use Rattle.step_model.specs.Step.{Stepped}
use Rattle.serial_model.specs.Serial.{SystemRec, Begun, serial, since, step_on, system_step, steps_on, steps_of, arriving, arriving_by, arrivals_of, level_on, shown_of, pin_level_on, coming_on, longer_histories, longer_events}
use Rattle.link_laws.specs.Windows.{NodesAlike, StepsAlike, IsNodeBefore}
use Rattle.locality_laws.proofs.Ends.{comes_to_it}
use Rattle.rest_laws.proofs.Lists.{joined}
use Rattle.rest_laws.proofs.Events.{AreEarlier, AreFrom}
use Rattle.rest_laws.proofs.Histories.{AreLater, IsSteady, flights, levels, length-flights, history_at, arrive-at, show-at}
use Rattle.rest_laws.proofs.Steps.{start_before, start_many, steps_told, steps_many, steps_before, steps_alike, recs_alike, histories_alike, events_alike, histories_joined, histories_many, histories_steady, histories_all, events_joined, events_many, events_all, earlier_still}

-- ---- What the serial machine has come to

pub record IsReached (plan : PlanRec) (slot : Slot) (system : SystemRec) : Type 0 where
  pub many_nodes : length system.nodes ≡ length plan.nodes
  pub many_events : length system.events ≡ length plan.nodes
  pub many_histories : length system.histories ≡ length (arcs plan)
  pub before : AllByRecursion (IsNodeBefore slot) system.nodes
  pub steady : AllByRecursion (IsSteady slot) system.histories
  pub earlier : AllByRecursion (AreEarlier slot) system.events

none_steady : (ds : List Arc) → AllByRecursion (IsSteady 0) (map (λ (d : Arc). []) ds)
none_steady [] = tt
none_steady (d ∷ ds) = (record { before = tt; order = tt }, none_steady ds)

none_earlier : (nodes : List NodePlan) → AllByRecursion (AreEarlier 0) (map (λ (node : NodePlan). []) nodes)
none_earlier [] = tt
none_earlier (node ∷ nodes) = (tt, none_earlier nodes)

module _ (plan : PlanRec) where
  reached_next : (slot : Slot) (system : SystemRec) → IsReached plan slot system → IsReached plan (suc slot) (system_step plan slot system)
  reached_next slot system is =
      let steps = steps_of plan slot system in
      let many : length steps ≡ length plan.nodes = steps_many [] plan system.histories slot 0 plan.nodes system.nodes is.many_nodes in
      record {
        many_nodes = length-map steps (λ (s : Stepped). s.rec) ∙ many;
        many_events = events_many steps system.events (length plan.nodes) many is.many_events;
        many_histories = histories_many slot system.nodes steps (arcs plan) system.histories is.many_histories;
        before = steps_before [] plan system.histories slot 0 plan.nodes system.nodes is.before;
        steady = histories_steady slot system.nodes steps (arcs plan) system.histories is.steady;
        earlier = events_all (λ (e : Event). e.slot < suc slot) slot (λ e now. omega (arith, now)) steps system.events
            (steps_told [] plan system.histories slot 0 plan.nodes system.nodes) (earlier_still slot system.events is.earlier);
      }

  pub reached : (slot : Slot) → IsReached plan slot (serial plan slot)
  unfolding serial
  reached zero = record {
    many_nodes = start_many plan 0 plan.nodes;
    many_events = length-map plan.nodes (λ (node : NodePlan). []);
    many_histories = length-map (arcs plan) (λ (d : Arc). []);
    before = start_before plan 0 plan.nodes;
    steady = none_steady (arcs plan);
    earlier = none_earlier plan.nodes;
  }
  reached (suc slot) = reached_next slot (serial plan slot) (reached slot)

-- ---- From there on

-- no events yet
abbrev pub none_told : List (List Event) → List (List Event)
none_told all = map (λ (events : List Event). []) all

module _ (plan : PlanRec) (from : Slot) (old : SystemRec) (is : IsReached plan from old) where
  abbrev pub in_flight : List (List Entry)
  in_flight = flights from (arcs plan) old.histories

  abbrev pub shown : List Word
  shown = levels from (arcs plan) old.histories

  -- the rest before a slot, which goes on with what was in flight, and the whole
  pub record IsAlong (slot : Slot) (rest whole : SystemRec) : Type 0 where
    pub later : List (List Entry)
    pub many_later : length later ≡ length (arcs plan)
    pub are_later : AllByRecursion (AreLater from) later
    pub alike : AllZip NodesAlike rest.nodes whole.nodes
    pub rest_before : AllByRecursion (IsNodeBefore slot) rest.nodes
    pub whole_before : AllByRecursion (IsNodeBefore slot) whole.nodes
    pub rest_histories : rest.histories ≡ joined in_flight later
    pub whole_histories : whole.histories ≡ joined old.histories later
    pub events : whole.events ≡ joined old.events rest.events
    pub are_from : AllByRecursion (AreFrom from) rest.events

  -- ---- What comes is the same

  module _ (slot : Slot) (past : from ≤ slot) (rest whole : SystemRec) (along : IsAlong slot rest whole) where
    by_link : (link : Option ℕ) → arriving_by plan rest.histories slot link ≡ arriving_by plan whole.histories slot link
    by_link None = refl
    by_link (Some link) =
        ap (λ (hs : List (List Entry)). arriving slot (delay_of plan link) (history_at hs link)) along.rest_histories
        ∙ (arrive-at from slot past (arcs plan) old.histories along.later link is.many_histories along.many_later is.steady
        ∙ sym (ap (λ (hs : List (List Entry)). arriving slot (delay_of plan link) (history_at hs link)) along.whole_histories))

    by_wire : (n : Position) (port : ℕ) (wire : Option ℕ) → wire_to plan n port ≡ wire → pin_level_on shown plan rest.histories n slot port wire ≡ pin_level_on [] plan whole.histories n slot port wire
    by_wire n port None comes = refl
    by_wire n port (Some wire) comes =
        let w = comes_to_it plan n port wire comes in
        ap (λ (hs : List (List Entry)). level_on (shown_of shown wire) slot (delay_of plan wire) (history_at hs wire)) along.rest_histories
        ∙ (show-at from slot past (arcs plan) old.histories along.later wire w.arc w.joined is.many_histories along.many_later is.steady w.here w.joins
        ∙ sym (ap (λ (hs : List (List Entry)). level_on 0 slot (delay_of plan wire) (history_at hs wire)) along.whole_histories))

    same_comes : (n : Position) → coming_on shown plan rest.histories slot n ≡ coming_on [] plan whole.histories slot n
    same_comes n = λ i. record {
      arrivals = arrivals_of (λ end. by_link (incoming plan n end) i);
      pins = record { level = map (λ port. by_wire n port (wire_to plan n port) refl i) port_numbers };
    }

    -- ---- One slot

    abbrev rest_steps : List Stepped
    rest_steps = steps_on shown plan slot rest

    abbrev whole_steps : List Stepped
    whole_steps = steps_of plan slot whole

    alike_steps : AllZip StepsAlike rest_steps whole_steps
    alike_steps = steps_alike plan slot shown [] rest.histories whole.histories same_comes 0 plan.nodes rest.nodes whole.nodes along.rest_before along.whole_before along.alike

    along_next : IsAlong (suc slot) (step_on shown plan slot rest) (system_step plan slot whole)
    along_next = record {
      later = longer_histories slot whole.nodes whole_steps (arcs plan) along.later;
      many_later = histories_many slot whole.nodes whole_steps (arcs plan) along.later along.many_later;
      are_later = histories_all slot whole.nodes whole_steps (λ (e : Entry). from ≤ e.slot) (λ e now. omega (arith, now, past)) (arcs plan) along.later along.are_later;
      alike = recs_alike rest_steps whole_steps alike_steps;
      rest_before = steps_before shown plan rest.histories slot 0 plan.nodes rest.nodes along.rest_before;
      whole_before = steps_before [] plan whole.histories slot 0 plan.nodes whole.nodes along.whole_before;
      rest_histories = histories_alike slot rest.nodes whole.nodes rest_steps whole_steps along.alike alike_steps (arcs plan) rest.histories
          ∙ (ap (longer_histories slot whole.nodes whole_steps (arcs plan)) along.rest_histories
          ∙ histories_joined slot whole.nodes whole_steps (arcs plan) in_flight along.later);
      whole_histories = ap (longer_histories slot whole.nodes whole_steps (arcs plan)) along.whole_histories
          ∙ histories_joined slot whole.nodes whole_steps (arcs plan) old.histories along.later;
      events = ap (longer_events whole_steps) along.events
          ∙ (events_joined whole_steps old.events rest.events
          ∙ ap (joined old.events) (sym (events_alike rest_steps whole_steps rest.events alike_steps)));
      are_from = events_all (λ (e : Event). from ≤ e.slot) slot (λ e now. omega (arith, now, past)) rest_steps rest.events
          (steps_told shown plan rest.histories slot 0 plan.nodes rest.nodes) along.are_from;
    }

  -- ---- As it begins

  abbrev pub begun_with : List NodeRec → Begun
  begun_with nodes = record { slot = from; system = record { nodes = nodes; histories = in_flight; events = none_told old.events }; shown = shown }

  nothing_more : {X : Type 0} (ds : List Arc) (all : List (List X)) → length all ≡ length ds → all ≡ joined all (map (λ (d : Arc). []) ds)
  nothing_more [] [] h = refl
  nothing_more [] (xs ∷ all) h = absurd (omega (arith, h))
  nothing_more (d ∷ ds) [] h = absurd (omega (arith, h))
  nothing_more (d ∷ ds) (xs ∷ all) h = λ i. sym (append-nil xs) i ∷ nothing_more ds all (omega (arith, h)) i

  no_more_told : (all : List (List Event)) → all ≡ joined all (none_told all)
  no_more_told [] = refl
  no_more_told (events ∷ all) = λ i. sym (append-nil events) i ∷ no_more_told all i

  none_later : (ds : List Arc) → AllByRecursion (AreLater from) (map (λ (d : Arc). []) ds)
  none_later [] = tt
  none_later (d ∷ ds) = (tt, none_later ds)

  none_from : (all : List (List Event)) → AllByRecursion (AreFrom from) (none_told all)
  none_from [] = tt
  none_from (events ∷ all) = (tt, none_from all)

  pub along_start : (nodes : List NodeRec) → AllZip NodesAlike nodes old.nodes → AllByRecursion (IsNodeBefore from) nodes → IsAlong from (begun_with nodes).system old
  along_start nodes alike before = record {
    later = map (λ (d : Arc). []) (arcs plan);
    many_later = length-map (arcs plan) (λ (d : Arc). []);
    are_later = none_later (arcs plan);
    alike = alike;
    rest_before = before;
    whole_before = is.before;
    rest_histories = nothing_more (arcs plan) in_flight (length-flights from (arcs plan) old.histories is.many_histories);
    whole_histories = nothing_more (arcs plan) old.histories is.many_histories;
    events = no_more_told old.events;
    are_from = none_from old.events;
  }

-- ---- All slots

module _ (plan : PlanRec) (from : Slot) (nodes : List NodeRec) (alike : AllZip NodesAlike nodes (serial plan from).nodes) (before : AllByRecursion (IsNodeBefore from) nodes) where
  abbrev pub begun : Begun
  begun = begun_with plan from (serial plan from) (reached plan from) nodes

  abbrev pub GoesAlong : Slot → SystemRec → SystemRec → Type 0
  GoesAlong slot rest whole = IsAlong plan from (serial plan from) (reached plan from) slot rest whole

  pub along : (count : ℕ) → GoesAlong (from + count) (since plan begun count) (serial plan (from + count))
  unfolding since serial
  along zero =
      let here : from ≡ from + 0 = omega arith in
      subst (λ (slot : Slot). GoesAlong slot begun.system (serial plan slot)) here (along_start plan from (serial plan from) (reached plan from) nodes alike before)
  along (suc count) =
      let next : suc (from + count) ≡ from + suc count = omega arith in
      subst (λ (slot : Slot). GoesAlong slot (step_on begun.shown plan (from + count) (since plan begun count)) (serial plan slot)) next
      (along_next plan from (serial plan from) (reached plan from) (from + count) (omega arith) (since plan begun count) (serial plan (from + count)) (along count))

-- A node alone goes the way that it goes in the serial machine.
use Rattle.std.proofs.Common.{◌≡◌, ℕ, zero, suc, ◌+◌, ◌-◌, ◌<◌, ◌≤◌, Bool, true, false, eqb, leb, ltb, Option, Some, None, List, [], ◌∷◌, ◌++◌, map, slice_get, slice_index_or, filter, refl, sym, ap, ◌∙◌, arith, inl, inr}
use mathlib.Core.Logic.{◌⊎◌}
use Rattle.std.specs.List.{AllByRecursion}
use Rattle.std.proofs.lemmas.Bool.{eqb-true, lt-ltb, leb-true, cases_Bool}
use Rattle.std.proofs.lemmas.List.{append-nil}
use Rattle.std.proofs.lemmas.List.Elements.{filter-append}
use Rattle.std.proofs.lemmas.Option.{get_or_from_slice_get}
use Rattle.xs_base.specs.Numbers.{Slot}
use Rattle.xs_base.specs.declared.numbers.TheConstants.{LINK_ENDS}
use Rattle.xs_base.specs.declared.entry.Entry.{Entry}
use Rattle.xs_model.specs.Record.{NodeRec, first_node}
use Rattle.sys_plan.specs.declared.NodePlan.{NodePlan}
use Rattle.sys_plan.specs.Plan.{PlanRec, Arc, IsPlan, arcs, incoming, wire_to, delay_of, link_ends, ends_out}
use Rattle.sys_plan.proofs.Routes.{leads-from, at-end-out, incoming-delay}
use Rattle.step_model.specs.Step.{Stepped}
use Rattle.serial_model.specs.Serial.{Coming, coming_at, step_by, serial, arriving_by, token_among, credit_among, level_after, pin_level, steps_of, node_by, emitted_by, carried_by}
use Rattle.pin_scripts.specs.Script.{port_numbers}
use Rattle.locality_laws.specs.Alone.{joins_of, joins_by, alone}
use Rattle.locality_laws.specs.Locality.{node_in, events_in, history_in, Leaves, arriving_before, ArriveAlike, ShowAlike, ArriveAlikeBefore, comes_in_serial, ArrivalsTell, ArrivalsTellBefore, carries_of, IsStep, StepNeedsComing, OutgoingLeaves, IsInSerial, Locality}
use Rattle.locality_laws.proofs.Entries.{AllFrom, filter_through, all_weaker, filter_none}
use Rattle.locality_laws.proofs.Links.{carried_in}
use Rattle.locality_laws.proofs.Ends.{wire_comes, gives_leaving, end_leaves}
use Rattle.locality_laws.proofs.Serial.{map_at, own_step, stands, stands_next, emitted_is, stepped_is, added, upto, upto_none, new_in, goes_on, grown}

-- ---- What comes

map_alike : {X : Type 0} (f g : ℕ → X) (ns : List ℕ) → AllByRecursion (λ n. f n ≡ g n) ns → map f ns ≡ map g ns
map_alike f g [] h = refl
map_alike f g (n ∷ ns) h = λ i. h.0 i ∷ map_alike f g ns h.1 i

module _ (plan : PlanRec) (n : ℕ) (slot : Slot) (one other : List (List Entry)) (alike : ArriveAlike plan n slot one other) (shows : ShowAlike plan n slot one other) where
  abbrev by_one : ℕ → List Entry
  by_one end = arriving_by plan one slot (incoming plan n end)

  abbrev by_other : ℕ → List Entry
  by_other end = arriving_by plan other slot (incoming plan n end)

  by_incoming : (end : ℕ) (link : Option ℕ) → end < LINK_ENDS → incoming plan n end ≡ link → arriving_by plan one slot link ≡ arriving_by plan other slot link
  by_incoming end None within is = refl
  by_incoming end (Some link) within is = alike end link within is

  by_end : (end : ℕ) → end < LINK_ENDS → by_one end ≡ by_other end
  by_end end within = by_incoming end (incoming plan n end) within refl

  by_ends : map by_one link_ends ≡ map by_other link_ends
  by_ends =
      map_alike by_one by_other link_ends
      (by_end 0 (omega arith), (by_end 1 (omega arith), (by_end 2 (omega arith), (by_end 3 (omega arith), (by_end 4 (omega arith), (by_end 5 (omega arith), (by_end 6 (omega arith), (by_end 7 (omega arith), tt))))))))

  by_wire : (port : ℕ) (wire : Option ℕ) → wire_to plan n port ≡ wire → pin_level plan one n slot port wire ≡ pin_level plan other n slot port wire
  by_wire port None is = refl
  by_wire port (Some wire) is = shows port wire is

  pub comes_alike : coming_at plan one slot n ≡ coming_at plan other slot n
  comes_alike = λ i. record {
    arrivals = record { tokens = map token_among (by_ends i); credits = map credit_among (by_ends i) };
    pins = record { level = map (λ port. by_wire port (wire_to plan n port) refl i) port_numbers };
  }

pub arrivals_tell : ArrivalsTell
arrivals_tell plan n slot heard alike shows = comes_alike plan n slot heard (serial plan slot).histories alike shows

-- ---- One slot

-- what a node's step puts after the history of an arc that leaves it
module _ (plan : PlanRec) (n : ℕ) (slot : Slot) (end link : ℕ) (l : Leaves plan n end link) where
  abbrev steps : List Stepped
  steps = steps_of plan slot (serial plan slot)

  abbrev recs : List NodeRec
  recs = map (λ (s : Stepped). s.rec) steps

  pub new_by : new_in plan link slot ≡ carried_by slot (node_in (serial plan slot) n) (node_by recs n) (emitted_by steps n) end l.arc.joins
  new_by =
      ap (added slot (serial plan slot).nodes steps) l.here
      ∙ (λ i. carried_by slot (node_in (serial plan slot) (l.from i)) (node_by recs (l.from i)) (emitted_by steps (l.from i)) (l.from_end i) l.arc.joins)

module _ (plan : PlanRec) (n : ℕ) (node : NodePlan) (here : slice_get plan.nodes n ≡ Some node) where
  node_is : (slot : Slot) → node_in (serial plan slot) n ≡ (stands plan n node here slot).rec
  node_is slot = let s = stands plan n node here slot in get_or_from_slice_get (serial plan slot).nodes n s.rec (first_node 0 0 []) s.rec_is

  events_are : (slot : Slot) → events_in (serial plan slot) n ≡ (stands plan n node here slot).events
  events_are slot = let s = stands plan n node here slot in get_or_from_slice_get (serial plan slot).events n s.events [] s.events_is

  module _ (slot : Slot) (coming : Coming) (comes : coming ≡ comes_in_serial plan n slot) where
    abbrev step : Stepped
    step = step_by plan n node slot coming (node_in (serial plan slot) n)

    own_is : own_step plan n node here slot (stands plan n node here slot) ≡ step
    own_is = λ i. step_by plan n node slot (sym comes i) (sym (node_is slot) i)

    pub is_step : IsStep plan n slot step
    unfolding stands_next
    is_step =
        let s = stands plan n node here slot in
        let next = stands_next plan n node here slot s in
        let emits : emitted_by (steps_of plan slot (serial plan slot)) n ≡ step.emitted = emitted_is plan n node here slot s ∙ ap (λ (x : Stepped). x.emitted) own_is in
        let becomes : node_by (map (λ (x : Stepped). x.rec) (steps_of plan slot (serial plan slot))) n ≡ step.rec = stepped_is plan n node here slot s ∙ ap (λ (x : Stepped). x.rec) own_is in
        let carries : (end link : ℕ) (l : Leaves plan n end link) → new_in plan link slot ≡ carries_of plan n slot step end l.arc.joins =
        λ end link l. new_by plan n slot end link l ∙ (λ i. carried_by slot (node_in (serial plan slot) n) (becomes i) (emits i) end l.arc.joins) in
        record {
          rec = get_or_from_slice_get (serial plan (suc slot)).nodes n next.rec (first_node 0 0 []) next.rec_is ∙ ap (λ (x : Stepped). x.rec) own_is;
          events = get_or_from_slice_get (serial plan (suc slot)).events n next.events [] next.events_is
              ∙ (λ i. sym (events_are slot) i ++ (own_is i).emitted.events);
          sent = λ end link l.
              goes_on plan link slot ∙ ap (λ h. upto plan link slot ++ h) (carries end link l);
          carried = λ end link l. carried_in plan link slot ∙ carries end link l;
        }

pub step_needs_coming : StepNeedsComing
step_needs_coming plan n node slot coming here comes = is_step plan n node here slot coming comes

-- ---- The arc that leaves by an end

pub outgoing_leaves : OutgoingLeaves
outgoing_leaves plan n end link h =
    let l = leads-from plan n end link h in
    record { arc = l.arc; here = l.here; from = l.from; from_end = l.from_end }

-- ---- What arrives before some slots tells what arrives in each of them, and what wires show in it

-- where two histories tell alike of what arrives before some slots, and the second one is what was sent before one of them, and from there on
module _ (slots slot delay : ℕ) (within : slot < slots) (least : 1 ≤ delay) (test : Entry → Bool) (passes : (e : Entry) → test e ≡ true → e.slot + delay ≤ slot) where
  abbrev before_them : Entry → Bool
  before_them e = ltb (e.slot + delay) slots

  passes_before : (e : Entry) → test e ≡ true → before_them e ≡ true
  passes_before e h = lt-ltb (e.slot + delay) slots (omega (arith, passes e h, within))

  fails_later : (e : Entry) → slot ≤ e.slot → test e ≡ false
  fails_later e later = by_test (cases_Bool (test e))
    where
      by_test : (test e ≡ true) ⊎ (test e ≡ false) → test e ≡ false
      by_test (inl is) = absurd (omega (arith, passes e is, later, least))
      by_test (inr not) = not

  pub same_of : (one whole before more : List Entry) → arriving_before slots delay one ≡ arriving_before slots delay whole → whole ≡ before ++ more → AllFrom slot more → filter test one ≡ filter test before
  same_of one whole before more alike is from =
      let none = all_weaker (λ (e : Entry). slot ≤ e.slot) (λ (e : Entry). test e ≡ false) fails_later more from in
      sym (filter_through test before_them passes_before one)
      ∙ ap (filter test) alike
      ∙ filter_through test before_them passes_before whole
      ∙ ap (filter test) is
      ∙ filter-append test before more
      ∙ ap (λ h. filter test before ++ h) (filter_none test more none)
      ∙ append-nil (filter test before)

module _ (plan : PlanRec) (is : IsPlan plan) (n slots slot : ℕ) (heard : List (List Entry)) (alike : ArriveAlikeBefore plan n slots heard (serial plan slots).histories) (within : slot < slots) where
  same_by : (end link : ℕ) → incoming plan n end ≡ Some link → (test : Entry → Bool) → ((e : Entry) → test e ≡ true → e.slot + delay_of plan link ≤ slot)
      → filter test (history_in heard link) ≡ filter test (upto plan link slot)
  same_by end link h test passes =
      let g = grown plan link slot (slots - slot) slots (omega (arith, within)) in
      same_of slots slot (delay_of plan link) within (incoming-delay plan is n end link h) test passes (history_in heard link) (upto plan link slots) (upto plan link slot) g.more (alike end link h) g.all g.from

  arrive_in_it : ArriveAlike plan n slot heard (serial plan slot).histories
  arrive_in_it end link _ h =
      let delay = delay_of plan link in
      same_by end link h (λ (e : Entry). eqb (e.slot + delay) slot) (λ e same. omega (arith, eqb-true (e.slot + delay) slot same))

  show_in_it : ShowAlike plan n slot heard (serial plan slot).histories
  show_in_it port wire h =
      let delay = delay_of plan wire in
      let comes = wire_comes plan is n port wire h in
      ap (level_after 0) (same_by comes.0 wire comes.1 (λ (e : Entry). leb (e.slot + delay) slot) (λ e by_now. leb-true (e.slot + delay) slot by_now))

pub arrivals_tell_before : ArrivalsTellBefore
arrivals_tell_before plan n slots slot heard is alike within =
    arrivals_tell plan n slot heard (arrive_in_it plan is n slots slot heard alike within) (show_in_it plan is n slots slot heard alike within)

-- ---- All slots

-- what a list tells of each end by which arcs may leave it tells of one by which an arc leaves
at_end : (plan : PlanRec) → IsPlan plan → (n : ℕ) (f : ℕ → List Entry) (end link : ℕ) → Leaves plan n end link → slice_index_or (map f (ends_out plan n)) end [] ≡ f end
at_end plan is n f end link l = at-end-out plan n f [] end (end_leaves plan is n end link l)

-- and the ports that the arc by that end joins are those that it joins
pub joins_is : (plan : PlanRec) (n end link : ℕ) (l : Leaves plan n end link) → joins_of plan (Some link) ≡ l.arc.joins
joins_is plan n end link l = get_or_from_slice_get (map (λ (d : Arc). d.joins) (arcs plan)) link l.arc.joins None (map_at (λ (d : Arc). d.joins) (arcs plan) link l.arc l.here)

joins_by_is : (plan : PlanRec) → IsPlan plan → (n end link : ℕ) (l : Leaves plan n end link) → joins_by plan n end ≡ l.arc.joins
joins_by_is plan is n end link l =
    ap (joins_of plan) (gives_leaving plan is n end link l) ∙ joins_is plan n end link l

module _ (plan : PlanRec) (is : IsPlan plan) (n : ℕ) (node : NodePlan) (here : slice_get plan.nodes n ≡ Some node) (comes : Slot → Coming) where
  abbrev Reached : Slot → Type 0
  Reached slots = IsInSerial plan n slots (alone plan comes n node slots)

  reached_start : Reached 0
  unfolding alone stands
  reached_start = record {
    rec = sym (node_is plan n node here 0);
    events = sym (events_are plan n node here 0);
    sent = λ end link l. at_end plan is n (λ end. []) end link l ∙ sym (upto_none plan link);
  }

  reached_next : (slot : Slot) → comes slot ≡ comes_in_serial plan n slot → Reached slot → Reached (suc slot)
  unfolding alone
  reached_next slot same_comes r =
      let step = is_step plan n node here slot (comes slot) same_comes in
      let before = alone plan comes n node slot in
      let same : step_by plan n node slot (comes slot) before.rec ≡ step_by plan n node slot (comes slot) (node_in (serial plan slot) n) = ap (step_by plan n node slot (comes slot)) r.rec in
      record {
        rec = ap (λ (x : Stepped). x.rec) same ∙ sym step.rec;
        events = (λ i. r.events i ++ (same i).emitted.events) ∙ sym step.events;
        sent = λ end link l.
            let after = step_by plan n node slot (comes slot) before.rec in
            at_end plan is n (λ end. slice_index_or before.sent end [] ++ carried_by slot before.rec after.rec after.emitted end (joins_by plan n end)) end link l
            ∙ (λ i. r.sent end link l i ++ carried_by slot (r.rec i) (same i).rec (same i).emitted end (joins_by_is plan is n end link l i))
            ∙ sym (step.sent end link l);
      }

  reached : (slots : Slot) → ((slot : Slot) → slot < slots → comes slot ≡ comes_in_serial plan n slot) → Reached slots
  reached zero alike = reached_start
  reached (suc slot) alike = reached_next slot (alike slot (omega arith)) (reached slot (λ earlier within. alike earlier (omega (arith, within))))

pub locality : Locality
locality plan n node slots comes is here alike = reached plan is n node here comes slots alike

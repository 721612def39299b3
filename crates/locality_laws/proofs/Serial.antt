-- The lists of the serial machine: nodes and events by position, histories by the number of the arc.
use Rattle.std.proofs.Common.{◌≡◌, ℕ, zero, suc, ◌+◌, ◌<◌, ◌≤◌, Option, Some, None, List, [], ◌∷◌, ◌++◌, length, map, slice_get, option_map, refl, sym, ap, ◌∙◌, arith}
use Rattle.std.proofs.lemmas.Option.{none-some, same_Some, slice_get-map, get_or_from_slice_get}
use Rattle.std.proofs.lemmas.List.{length-map, append-nil, append_assoc}
use Rattle.xs_base.specs.Numbers.{Slot}
use Rattle.xs_base.specs.declared.entry.Entry.{Entry}
use Rattle.xs_model.specs.declared.event.Event.{Event}
use Rattle.xs_model.specs.Record.{NodeRec, first_node}
use Rattle.xs_model.specs.Outside.{emitted_events}
use Rattle.sys_plan.specs.declared.NodePlan.{NodePlan}
use Rattle.sys_plan.specs.Plan.{PlanRec, Arc, arcs, arc_count, gaps_of}
use Rattle.step_model.specs.Start.{node_of}
use Rattle.step_model.specs.Step.{Stepped}
use Rattle.serial_model.specs.Serial.{SystemRec, nodes_at_start, serial, steps_from, steps_of, coming_at, step_by, node_by, emitted_by, carried, longer_histories, longer_events}
use Rattle.locality_laws.specs.Locality.{history_in, comes_in_serial}
use Rattle.locality_laws.proofs.Entries.{AllIn, AllFrom, AllBefore, both_all, all_weaker, carried_has}

pub map_at : {X Y : Type 0} (f : X → Y) (xs : List X) (k : ℕ) (x : X) → slice_get xs k ≡ Some x → slice_get (map f xs) k ≡ Some (f x)
map_at f xs k x h = slice_get-map f xs k ∙ ap (option_map f) h

-- ---- Nodes

pub start_at : (plan : PlanRec) (n : ℕ) (nodes : List NodePlan) (k m : ℕ) (node : NodePlan) → m ≡ n + k → slice_get nodes k ≡ Some node
    → slice_get (nodes_at_start plan n nodes) k ≡ Some (node_of node (gaps_of plan m))
start_at plan n [] k m node e h = absurd (none-some node h)
start_at plan n (x ∷ nodes) zero m node e h =
    let same : n ≡ m = omega arith in
    λ i. Some (node_of (same_Some x node h i) (gaps_of plan (same i)))
start_at plan n (x ∷ nodes) (suc k) m node e h = start_at plan (n + 1) nodes k m node (omega arith) h

module _ (plan : PlanRec) (histories : List (List Entry)) (slot : Slot) where
  step_at : (n : ℕ) (nodes : List NodePlan) (recs : List NodeRec) (k m : ℕ) (node : NodePlan) (rec : NodeRec) → m ≡ n + k → slice_get nodes k ≡ Some node → slice_get recs k ≡ Some rec
      → slice_get (steps_from plan histories slot n nodes recs) k ≡ Some (step_by plan m node slot (coming_at plan histories slot m) rec)
  step_at n [] recs k m node rec e h g = absurd (none-some node h)
  step_at n (x ∷ nodes) [] k m node rec e h g = absurd (none-some rec g)
  step_at n (x ∷ nodes) (r ∷ recs) zero m node rec e h g =
      let same : n ≡ m = omega arith in
      λ i. Some (step_by plan (same i) (same_Some x node h i) slot (coming_at plan histories slot (same i)) (same_Some r rec g i))
  step_at n (x ∷ nodes) (r ∷ recs) (suc k) m node rec e h g = step_at (n + 1) nodes recs k m node rec (omega arith) h g

pub events_at : (steps : List Stepped) (all : List (List Event)) (k : ℕ) (s : Stepped) (events : List Event) → slice_get steps k ≡ Some s → slice_get all k ≡ Some events
    → slice_get (longer_events steps all) k ≡ Some (events ++ s.emitted.events)
events_at [] all k s events h g = absurd (none-some s h)
events_at (x ∷ steps) [] k s events h g = absurd (none-some events g)
events_at (x ∷ steps) (y ∷ all) zero s events h g = λ i. Some (same_Some y events g i ++ (same_Some x s h i).emitted.events)
events_at (x ∷ steps) (y ∷ all) (suc k) s events h g = events_at steps all k s events h g

-- the node at a position before a slot, and what happened to it
pub record Stands (system : SystemRec) (n : ℕ) : Type 0 where
  pub rec : NodeRec
  pub events : List Event
  pub rec_is : slice_get system.nodes n ≡ Some rec
  pub events_is : slice_get system.events n ≡ Some events

module _ (plan : PlanRec) (n : ℕ) (node : NodePlan) (here : slice_get plan.nodes n ≡ Some node) where
  abbrev pub own_step : (slot : Slot) → Stands (serial plan slot) n → Stepped
  own_step slot s = step_by plan n node slot (comes_in_serial plan n slot) s.rec

  pub stepped : (slot : Slot) (s : Stands (serial plan slot) n) → slice_get (steps_of plan slot (serial plan slot)) n ≡ Some (own_step slot s)
  stepped slot s =
      let system = serial plan slot in
      step_at plan system.histories slot 0 plan.nodes system.nodes n n node s.rec (omega arith) here s.rec_is

  unfoldable pub stands_next : (slot : Slot) → Stands (serial plan slot) n → Stands (serial plan (suc slot)) n
  unfolding serial
  stands_next slot s =
      let steps = steps_of plan slot (serial plan slot) in
      record {
        rec = (own_step slot s).rec;
        events = s.events ++ (own_step slot s).emitted.events;
        rec_is = map_at (λ (x : Stepped). x.rec) steps n (own_step slot s) (stepped slot s);
        events_is = events_at steps (serial plan slot).events n (own_step slot s) s.events (stepped slot s) s.events_is;
      }

  unfoldable pub stands : (slot : Slot) → Stands (serial plan slot) n
  unfolding serial
  stands zero = record {
    rec = node_of node (gaps_of plan n);
    events = [];
    rec_is = start_at plan 0 plan.nodes n n node (omega arith) here;
    events_is = map_at (λ (node : NodePlan). []) plan.nodes n node here;
  }
  stands (suc slot) = stands_next slot (stands slot)

  -- what it emits in a slot
  pub emitted_is : (slot : Slot) (s : Stands (serial plan slot) n) → emitted_by (steps_of plan slot (serial plan slot)) n ≡ (own_step slot s).emitted
  emitted_is slot s =
      let steps = steps_of plan slot (serial plan slot) in
      get_or_from_slice_get (map (λ (x : Stepped). x.emitted) steps) n (own_step slot s).emitted (emitted_events []) (map_at (λ (x : Stepped). x.emitted) steps n (own_step slot s) (stepped slot s))

  -- and what it is after it
  pub stepped_is : (slot : Slot) (s : Stands (serial plan slot) n) → node_by (map (λ (x : Stepped). x.rec) (steps_of plan slot (serial plan slot))) n ≡ (own_step slot s).rec
  stepped_is slot s =
      let steps = steps_of plan slot (serial plan slot) in
      get_or_from_slice_get (map (λ (x : Stepped). x.rec) steps) n (own_step slot s).rec (first_node 0 0 []) (map_at (λ (x : Stepped). x.rec) steps n (own_step slot s) (stepped slot s))

-- ---- Arcs

module _ (slot : Slot) (nodes : List NodeRec) (steps : List Stepped) where
  -- what a slot puts after the history of the arc with a number
  abbrev pub added : Option Arc → List Entry
  added None = []
  added (Some d) = carried slot nodes steps d

  pub added_in : (d : Option Arc) → AllIn slot (added d)
  added_in None = tt
  added_in (Some d) = carried_has slot (node_by nodes d.from) (node_by (map (λ (s : Stepped). s.rec) steps) d.from) (emitted_by steps d.from) d.from_end d.joins

  longer_count : (ds : List Arc) (histories : List (List Entry)) → length histories ≡ length ds → length (longer_histories slot nodes steps ds histories) ≡ length ds
  longer_count [] histories e = refl
  longer_count (d ∷ ds) [] e = absurd (omega (arith, e))
  longer_count (d ∷ ds) (h ∷ histories) e = ap suc (longer_count ds histories (omega (arith, e)))

  longer_at : (ds : List Arc) (histories : List (List Entry)) (l : ℕ) → length histories ≡ length ds
      → history_in (longer_histories slot nodes steps ds histories) l ≡ history_in histories l ++ added (slice_get ds l)
  longer_at [] [] l e = refl
  longer_at [] (h ∷ histories) l e = absurd (omega (arith, e))
  longer_at (d ∷ ds) [] l e = absurd (omega (arith, e))
  longer_at (d ∷ ds) (h ∷ histories) zero e = refl
  longer_at (d ∷ ds) (h ∷ histories) (suc l) e = longer_at ds histories l (omega (arith, e))

none_sent : (ds : List Arc) (l : ℕ) → history_in (map (λ (d : Arc). []) ds) l ≡ []
none_sent [] l = refl
none_sent (d ∷ ds) zero = refl
none_sent (d ∷ ds) (suc l) = none_sent ds l

-- each arc has a history
count : (plan : PlanRec) (slot : Slot) → length (serial plan slot).histories ≡ arc_count plan
unfolding serial
count plan zero = length-map (arcs plan) (λ (d : Arc). [])
count plan (suc slot) = longer_count slot (serial plan slot).nodes (steps_of plan slot (serial plan slot)) (arcs plan) (serial plan slot).histories (count plan slot)

module _ (plan : PlanRec) (l : ℕ) where
  -- the history of the arc before a slot
  abbrev pub upto : Slot → List Entry
  upto slot = history_in (serial plan slot).histories l

  -- what is put after it in a slot
  abbrev pub new_in : Slot → List Entry
  new_in slot = added slot (serial plan slot).nodes (steps_of plan slot (serial plan slot)) (slice_get (arcs plan) l)

  pub goes_on : (slot : Slot) → upto (suc slot) ≡ upto slot ++ new_in slot
  unfolding serial
  goes_on slot = longer_at slot (serial plan slot).nodes (steps_of plan slot (serial plan slot)) (arcs plan) (serial plan slot).histories l (count plan slot)

  pub new_are_in : (slot : Slot) → AllIn slot (new_in slot)
  new_are_in slot = added_in slot (serial plan slot).nodes (steps_of plan slot (serial plan slot)) (slice_get (arcs plan) l)

  pub upto_none : upto 0 ≡ []
  unfolding serial
  upto_none = none_sent (arcs plan) l

  -- what is in it was sent before the slot
  pub sent_before : (slot : Slot) → AllBefore slot (upto slot)
  sent_before zero = rw upto_none tt
  sent_before (suc slot) =
      let old = all_weaker (λ (e : Entry). e.slot < slot) (λ (e : Entry). e.slot < suc slot) (λ e h. omega (arith, h)) (upto slot) (sent_before slot) in
      let new = all_weaker (λ (e : Entry). e.slot ≡ slot) (λ (e : Entry). e.slot < suc slot) (λ e h. omega (arith, h)) (new_in slot) (new_are_in slot) in
      rw (goes_on slot) (both_all (λ (e : Entry). e.slot < suc slot) (upto slot) (new_in slot) old new)

  -- from a slot on it only grows, by what is sent from that slot on
  pub record Grown (slot to : Slot) : Type 0 where
    pub more : List Entry
    pub all : upto to ≡ upto slot ++ more
    pub from : AllFrom slot more
    pub before : AllBefore to more

  pub grown : (slot k to : Slot) → to ≡ slot + k → Grown slot to
  grown slot zero to e = record {
    more = [];
    all = ap upto (omega (arith, e)) ∙ sym (append-nil (upto slot));
    from = tt;
    before = tt;
  }
  grown slot (suc k) zero e = absurd (omega (arith, e))
  grown slot (suc k) (suc to) e =
      let first = grown slot k to (omega (arith, e)) in
      record {
        more = first.more ++ new_in to;
        all = goes_on to ∙ ap (λ (h : List Entry). h ++ new_in to) first.all ∙ append_assoc (upto slot) first.more (new_in to);
        from = both_all (λ (x : Entry). slot ≤ x.slot) first.more (new_in to) first.from (all_weaker (λ (x : Entry). x.slot ≡ to) (λ (x : Entry). slot ≤ x.slot) (λ x h. omega (arith, h, e)) (new_in to) (new_are_in to));
        before = both_all (λ (x : Entry). x.slot < suc to) first.more (new_in to)
            (all_weaker (λ (x : Entry). x.slot < to) (λ (x : Entry). x.slot < suc to) (λ x h. omega (arith, h)) first.more first.before)
            (all_weaker (λ (x : Entry). x.slot ≡ to) (λ (x : Entry). x.slot < suc to) (λ x h. omega (arith, h)) (new_in to) (new_are_in to));
      }

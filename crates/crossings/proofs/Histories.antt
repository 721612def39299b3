-- The histories of the serial machine are in sending order, and those of links have no levels.
use Rattle.std.proofs.Common.{◌≡◌, ℕ, zero, suc, ◌<◌, Bool, true, false, eqb, Option, Some, None, List, [], ◌∷◌, ◌++◌, filter, slice_get, slice_index_or, map, refl, arith, inl, inr}
use mathlib.Core.Logic.{◌⊎◌}
use Rattle.std.specs.List.{AllByRecursion}
use Rattle.std.proofs.lemmas.Bool.{cases_Bool}
use Rattle.std.proofs.lemmas.Option.{none-some}
use Rattle.xs_base.specs.Numbers.{Slot, Word, LinkNumber}
use Rattle.xs_base.specs.declared.entry.Entry.{Entry}
use Rattle.xs_model.specs.Record.{NodeRec}
use Rattle.xs_model.specs.Outside.{Emitted}
use Rattle.sys_plan.specs.declared.LinkPlan.{LinkPlan}
use Rattle.sys_plan.specs.Plan.{PlanRec, Arc, Joined, link_arcs, wire_arcs, arcs}
use Rattle.step_model.specs.Step.{Stepped}
use Rattle.serial_model.specs.Serial.{IsNoLevel, serial, steps_of, sent_by, level_entries, carried_by, carried, node_by, emitted_by, longer_histories, is_sent_within, history}
use Rattle.crossings.specs.Crossings.{MayFollow, AreInSendingOrder, HaveNoLevel}
use Rattle.crossings.proofs.Arriving.{all-map, all-append, order-append, sent-order, sent-at, sent-no-level, no-level-append}

-- ---- Of entries in order, those that pass a test are in order

module _ (P : Entry → Type 0) (p : Entry → Bool) where
  pub all-filter : (es : List Entry) → AllByRecursion P es → AllByRecursion P (filter p es)
  all-filter [] all = tt
  all-filter (e ∷ es) all = by_test (cases_Bool (p e)) (all-filter es all.1)
    where
      by_test : (p e ≡ true) ⊎ (p e ≡ false) → AllByRecursion P (filter p es) → AllByRecursion P (filter p (e ∷ es))
      by_test (inl in_p) rest = rw in_p (all.0, rest)
      by_test (inr out_p) rest = rw out_p rest

pub order-filter : (p : Entry → Bool) (es : List Entry) → AreInSendingOrder es → AreInSendingOrder (filter p es)
order-filter p [] order = tt
order-filter p (e ∷ es) order = by_test (cases_Bool (p e)) (order-filter p es order.1)
  where
    by_test : (p e ≡ true) ⊎ (p e ≡ false) → AreInSendingOrder (filter p es) → AreInSendingOrder (filter p (e ∷ es))
    by_test (inl in_p) rest = rw in_p (all-filter (MayFollow e) p es order.0, rest)
    by_test (inr out_p) rest = rw out_p rest

-- ---- The serial machine

-- a history before a slot
record IsHistory (slot : Slot) (es : List Entry) : Type 0 where
  in_order : AreInSendingOrder es
  before : AllByRecursion (λ (e : Entry). e.slot < slot) es

-- what a slot puts after a history
record IsOfSlot (slot : Slot) (es : List Entry) : Type 0 where
  in_order : AreInSendingOrder es
  at : AllByRecursion (λ (e : Entry). e.slot ≡ slot) es

sent-of-slot : (slot : Slot) (emitted : Emitted) (end : ℕ) → IsOfSlot slot (sent_by slot emitted end)
sent-of-slot slot emitted end =
    let token = slice_index_or emitted.tokens end None in
    let credit = slice_index_or emitted.credits end false in
    record { in_order = sent-order slot token credit; at = sent-at slot token credit }

level-of-slot : (slot : Slot) (before after : Word) → IsOfSlot slot (level_entries slot before after)
level-of-slot slot before after = by_test (cases_Bool (eqb after before))
  where
    by_test : (eqb after before ≡ true) ⊎ (eqb after before ≡ false) → IsOfSlot slot (level_entries slot before after)
    by_test (inl same) = rw same (record { in_order = tt; at = tt })
    by_test (inr other) = rw other (record { in_order = (tt, tt); at = (refl, tt) })

carried-by-of-slot : (slot : Slot) (before after : NodeRec) (emitted : Emitted) (end : ℕ) (joins : Option Joined) → IsOfSlot slot (carried_by slot before after emitted end joins)
carried-by-of-slot slot before after emitted end None = sent-of-slot slot emitted end
carried-by-of-slot slot before after emitted end (Some joined) = level-of-slot slot _ _

carried-of-slot : (slot : Slot) (nodes : List NodeRec) (steps : List Stepped) (d : Arc) → IsOfSlot slot (carried slot nodes steps d)
carried-of-slot slot nodes steps d =
    carried-by-of-slot slot (node_by nodes d.from) (node_by (map (λ (s : Stepped). s.rec) steps) d.from) (emitted_by steps d.from) d.from_end d.joins

longer : (slot : Slot) (es new : List Entry) → IsOfSlot slot new → IsHistory slot es → IsHistory (suc slot) (es ++ new)
longer slot es new of is = record {
  in_order = order-append slot es new is.in_order is.before of.at of.in_order;
  before =
      all-append (λ (e : Entry). e.slot < suc slot) es new
      (all-map (λ (e : Entry). e.slot < slot) (λ (e : Entry). e.slot < suc slot) (λ e l. omega (arith, l)) es is.before)
      (all-map (λ (e : Entry). e.slot ≡ slot) (λ (e : Entry). e.slot < suc slot) (λ e same. omega (arith, same)) new of.at);
}

all-longer : (slot : Slot) (nodes : List NodeRec) (steps : List Stepped) (ds : List Arc) (histories : List (List Entry)) → AllByRecursion (IsHistory slot) histories
    → AllByRecursion (IsHistory (suc slot)) (longer_histories slot nodes steps ds histories)
all-longer slot nodes steps [] histories all = tt
all-longer slot nodes steps (d ∷ ds) [] all = tt
all-longer slot nodes steps (d ∷ ds) (h ∷ histories) all =
    (longer slot h (carried slot nodes steps d) (carried-of-slot slot nodes steps d) all.0, all-longer slot nodes steps ds histories all.1)

none-yet : (ds : List Arc) → AllByRecursion (IsHistory 0) (map (λ (d : Arc). []) ds)
none-yet [] = tt
none-yet (d ∷ ds) = (record { in_order = tt; before = tt }, none-yet ds)

all-histories : (plan : PlanRec) (slot : Slot) → AllByRecursion (IsHistory slot) (serial plan slot).histories
unfolding serial
all-histories plan zero = none-yet (arcs plan)
all-histories plan (suc slot) =
    let system = serial plan slot in
    all-longer slot system.nodes (steps_of plan slot system) (arcs plan) system.histories (all-histories plan slot)

history-at : (slot : Slot) (histories : List (List Entry)) (link : ℕ) → AllByRecursion (IsHistory slot) histories → IsHistory slot (slice_index_or histories link [])
history-at slot [] link all = record { in_order = tt; before = tt }
history-at slot (h ∷ histories) zero all = all.0
history-at slot (h ∷ histories) (suc link) all = history-at slot histories link all.1

-- a history of the serial machine is in order
pub serial_in_order : (plan : PlanRec) (link : LinkNumber) (slot : Slot) → AreInSendingOrder (slice_index_or (serial plan slot).histories link [])
serial_in_order plan link slot = (history-at slot (serial plan slot).histories link (all-histories plan slot)).in_order

-- and so is what an arc carried over some slots
pub history_in_order : (plan : PlanRec) (link : LinkNumber) (from to : Slot) → AreInSendingOrder (history plan link from to)
history_in_order plan link from to = order-filter (is_sent_within from to) (slice_index_or (serial plan to).histories link []) (serial_in_order plan link to)

-- ---- The histories of directed links

-- what joins no pins carries no level
pub carried-no-level : (slot : Slot) (nodes : List NodeRec) (steps : List Stepped) (d : Arc) → d.joins ≡ None → HaveNoLevel (carried slot nodes steps d)
carried-no-level slot nodes steps d none =
    let emitted = emitted_by steps d.from in
    rw none (sent-no-level slot (slice_index_or emitted.tokens d.from_end None) (slice_index_or emitted.credits d.from_end false))

-- of arcs and their histories: that of each arc that joins no pins is of a link
abbrev LinksHaveNoLevel : List Arc → List (List Entry) → Type 0
LinksHaveNoLevel [] [] = Unit {0}
LinksHaveNoLevel (d ∷ ds) (history ∷ histories) = (d.joins ≡ None → HaveNoLevel history) × LinksHaveNoLevel ds histories
LinksHaveNoLevel _ _ = ⊥

links-longer : (slot : Slot) (nodes : List NodeRec) (steps : List Stepped) (ds : List Arc) (histories : List (List Entry)) → LinksHaveNoLevel ds histories → LinksHaveNoLevel ds (longer_histories slot nodes steps ds histories)
links-longer slot nodes steps [] [] all = tt
links-longer slot nodes steps (d ∷ ds) (h ∷ histories) all =
    (λ none. no-level-append h (carried slot nodes steps d) (all.0 none) (carried-no-level slot nodes steps d none), links-longer slot nodes steps ds histories all.1)
links-longer slot nodes steps _ _ all = absurd all

links-none-yet : (ds : List Arc) → LinksHaveNoLevel ds (map (λ (d : Arc). []) ds)
links-none-yet [] = tt
links-none-yet (d ∷ ds) = (λ none. tt, links-none-yet ds)

links-histories : (plan : PlanRec) (slot : Slot) → LinksHaveNoLevel (arcs plan) (serial plan slot).histories
unfolding serial
links-histories plan zero = links-none-yet (arcs plan)
links-histories plan (suc slot) =
    let system = serial plan slot in
    links-longer slot system.nodes (steps_of plan slot system) (arcs plan) system.histories (links-histories plan slot)

-- what the arc with a number joins, which is nothing where that is a directed link
abbrev pub joins_at : List Arc → LinkNumber → Option Joined
joins_at ds link = slice_index_or (map (λ (d : Arc). d.joins) ds) link None

link-at : (ds : List Arc) (histories : List (List Entry)) (link : ℕ) → LinksHaveNoLevel ds histories → joins_at ds link ≡ None → HaveNoLevel (slice_index_or histories link [])
link-at [] [] link all none = tt
link-at (d ∷ ds) (h ∷ histories) zero all none = all.0 none
link-at (d ∷ ds) (h ∷ histories) (suc link) all none = link-at ds histories link all.1 none
link-at _ _ link all none = absurd all

-- the history of a directed link has no levels
pub serial_has_no_level : (plan : PlanRec) (link : LinkNumber) (slot : Slot) → joins_at (arcs plan) link ≡ None → HaveNoLevel (slice_index_or (serial plan slot).histories link [])
serial_has_no_level plan link slot none = link-at (arcs plan) (serial plan slot).histories link (links-histories plan slot) none

-- and neither has what it carried over some slots
pub history_has_no_level : (plan : PlanRec) (link : LinkNumber) (from to : Slot) → joins_at (arcs plan) link ≡ None → HaveNoLevel (history plan link from to)
history_has_no_level plan link from to none =
    all-filter (λ (e : Entry). IsNoLevel e.what) (is_sent_within from to) (slice_index_or (serial plan to).histories link []) (serial_has_no_level plan link to none)

-- the arcs of links are the first ones, and join no pins
joins-among : (links : List LinkPlan) (ds : List Arc) (link : LinkNumber) (d : Arc) → slice_get (link_arcs links) link ≡ Some d → joins_at (link_arcs links ++ ds) link ≡ None
joins-among [] ds link d here = absurd (none-some d here)
joins-among (l ∷ links) ds zero d here = refl
joins-among (l ∷ links) ds (suc zero) d here = refl
joins-among (l ∷ links) ds (suc (suc k)) d here = joins-among links ds k d here

pub links-join-nothing : (plan : PlanRec) (link : LinkNumber) (d : Arc) → slice_get (link_arcs plan.links) link ≡ Some d → joins_at (arcs plan) link ≡ None
links-join-nothing plan link d here = joins-among plan.links (wire_arcs [] plan.wires) link d here

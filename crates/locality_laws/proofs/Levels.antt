-- What arcs carry: no level comes by a link end, and wires carry levels alone, which fit the pins that they join.
use Rattle.std.proofs.Common.{◌≡◌, ℕ, zero, suc, ◌+◌, ◌<◌, ◌^◌, eqb, cond, get_or, length, Bool, true, false, Option, Some, None, List, [], ◌∷◌, ◌++◌, map, filter, slice_get, slice_index_or, refl, sym, ap, ◌∙◌, subst, arith, inl, inr}
use mathlib.Core.Logic.{◌⊎◌}
use Rattle.std.specs.Prelude.{IfSome}
use Rattle.std.specs.List.{AllByRecursion}
use Rattle.std.proofs.lemmas.Nat.{pow_pos}
use Rattle.std.proofs.lemmas.Bool.{cases_Bool}
use Rattle.std.proofs.lemmas.Option.{none-some, same_Some}
use Rattle.xs_base.specs.Numbers.{Slot, Word}
use Rattle.xs_base.specs.declared.numbers.TheConstants.{LINK_ENDS}
use Rattle.xs_base.specs.declared.token.Token.{Token}
use Rattle.xs_base.specs.declared.entry.Entry.{Entry}
use Rattle.xs_base.specs.declared.entry.What.TheVariants as what
use Rattle.xs_base.specs.Ids.{port_width}
use Rattle.xs_model.specs.Ports.{level_of}
use Rattle.xs_model.specs.Record.{NodeRec, first_node, port_of}
use Rattle.xs_model.specs.Outside.{Emitted}
use Rattle.sys_plan.specs.declared.NodePlan.{NodePlan}
use Rattle.sys_plan.specs.declared.LinkPlan.{LinkPlan}
use Rattle.sys_plan.specs.declared.WirePlan.{WirePlan}
use Rattle.sys_plan.specs.Plan.{PlanRec, Arc, Joined, IsWire, arcs, link_arcs, wire_arcs}
use Rattle.sys_plan.proofs.Routes.{leads-to, all-get}
use Rattle.step_model.specs.Step.{Stepped}
use Rattle.step_laws.specs.Driven.{AllFitPins}
use Rattle.step_laws.proofs.Driven.{first_fits_pins, slot_fits_pins}
use Rattle.serial_model.specs.Serial.{IsNoLevel, is_sent_within, history, serial, nodes_at_start, steps_from, steps_of, node_by, emitted_by, token_entries, credit_entries, driven_level, level_entries, carried_by}
use Rattle.locality_laws.specs.Locality.{node_in}
use Rattle.locality_laws.specs.Levels.{IsLevelOf, LinksCarryNoLevel, DrivenLevelsFit, WiresCarryLevels}
use Rattle.locality_laws.proofs.Entries.{both_all}
use Rattle.locality_laws.proofs.Serial.{upto, upto_none, new_in, added, goes_on}

-- ---- What holds of all that is carried

module _ (P : Entry → Type 0) where
  pub kept_all : (p : Entry → Bool) (xs : List Entry) → AllByRecursion P xs → AllByRecursion P (filter p xs)
  kept_all p [] h = tt
  kept_all p (x ∷ xs) h = by_test (kept_all p xs h.1) (cases_Bool (p x))
    where
      by_test : AllByRecursion P (filter p xs) → (p x ≡ true) ⊎ (p x ≡ false) → AllByRecursion P (filter p (x ∷ xs))
      by_test rest (inl passes) = rw passes (h.0, rest)
      by_test rest (inr stopped) = rw stopped rest

  module _ (plan : PlanRec) (l : ℕ) (new : (slot : Slot) → AllByRecursion P (new_in plan l slot)) where
    all_upto : (slot : Slot) → AllByRecursion P (upto plan l slot)
    all_upto zero = rw (upto_none plan l) tt
    all_upto (suc slot) = rw (goes_on plan l slot) (both_all P (upto plan l slot) (new_in plan l slot) (all_upto slot) (new slot))

    pub all_history : (from to : Slot) → AllByRecursion P (history plan l from to)
    all_history from to = kept_all (is_sent_within from to) (upto plan l to) (all_upto to)

-- ---- Links

abbrev NoLevels : List Entry → Type 0
NoLevels es = AllByRecursion (λ (e : Entry). IsNoLevel e.what) es

token_none : (slot : Slot) (token : Option Token) → NoLevels (token_entries slot token)
token_none slot None = tt
token_none slot (Some t) = (tt, tt)

credit_none : (slot : Slot) (credit : Bool) → NoLevels (credit_entries slot credit)
credit_none slot false = tt
credit_none slot true = (tt, tt)

link_none : (slot : Slot) (before after : NodeRec) (emitted : Emitted) (end : ℕ) (joins : Option Joined) → joins ≡ None → NoLevels (carried_by slot before after emitted end joins)
link_none slot before after emitted end (Some joined) h = absurd (none-some joined (sym h))
link_none slot before after emitted end None h =
    let token = slice_index_or emitted.tokens end None in
    let credit = slice_index_or emitted.credits end false in
    both_all (λ (e : Entry). IsNoLevel e.what) (token_entries slot token) (credit_entries slot credit) (token_none slot token) (credit_none slot credit)

added_none : (slot : Slot) (nodes : List NodeRec) (steps : List Stepped) (arc : Option Arc) (d : Arc) → arc ≡ Some d → d.joins ≡ None → NoLevels (added slot nodes steps arc)
added_none slot nodes steps None d h none = tt
added_none slot nodes steps (Some x) d h none = link_none slot (node_by nodes x.from) (node_by (map (λ (s : Stepped). s.rec) steps) x.from) (emitted_by steps x.from) x.from_end x.joins (ap (λ (d : Arc). d.joins) (same_Some x d h) ∙ none)

-- what comes to a link end is none of a wire
abbrev OfLinks : Arc → Type 0
OfLinks d = d.to_end < LINK_ENDS → d.joins ≡ None

wires_come_past : (earlier wires : List WirePlan) → AllByRecursion OfLinks (wire_arcs earlier wires)
wires_come_past earlier [] = tt
wires_come_past earlier (wire ∷ wires) = (λ within. absurd (omega (arith, within)), wires_come_past (wire ∷ earlier) wires)

links_come : (links : List LinkPlan) (ds : List Arc) → AllByRecursion OfLinks ds → AllByRecursion OfLinks (link_arcs links ++ ds)
links_come [] ds h = h
links_come (link ∷ links) ds h = (λ within. refl, (λ within. refl, links_come links ds h))

pub links_carry_no_level : LinksCarryNoLevel
links_carry_no_level plan n end link from to within comes =
    let l = leads-to plan n end link comes in
    let below : l.arc.to_end < LINK_ENDS = omega (arith, within, l.to_end) in
    let none : l.arc.joins ≡ None = all-get OfLinks (arcs plan) link l.arc (links_come plan.links (wire_arcs [] plan.wires) (wires_come_past [] plan.wires)) l.here below in
    all_history (λ (e : Entry). IsNoLevel e.what) plan link (λ slot. added_none slot (serial plan slot).nodes (steps_of plan slot (serial plan slot)) (slice_get (arcs plan) link) l.arc l.here none) from to

-- ---- What ports drive

module _ (plan : PlanRec) where
  -- what stands for a node where none is
  abbrev no_node : NodeRec
  no_node = first_node 0 0 []

  no_node_fits : AllFitPins no_node.core
  no_node_fits = first_fits_pins 0 0 []

  start_fits : (n : ℕ) (nodes : List NodePlan) (k : ℕ) → AllFitPins (get_or (nodes_at_start plan n nodes) k no_node).core
  start_fits n [] k = no_node_fits
  start_fits n (node ∷ nodes) zero = no_node_fits
  start_fits n (node ∷ nodes) (suc k) = start_fits (n + 1) nodes k

  steps_fit : (histories : List (List Entry)) (slot : Slot) (n : ℕ) (nodes : List NodePlan) (recs : List NodeRec)
      → ((k : ℕ) → AllFitPins (get_or recs k no_node).core)
      → (k : ℕ) → AllFitPins (get_or (map (λ (s : Stepped). s.rec) (steps_from plan histories slot n nodes recs)) k no_node).core
  steps_fit histories slot n [] recs fit k = no_node_fits
  steps_fit histories slot n (node ∷ nodes) [] fit k = no_node_fits
  steps_fit histories slot n (node ∷ nodes) (rec ∷ recs) fit zero = slot_fits_pins _ rec slot _ _ (fit 0)
  steps_fit histories slot n (node ∷ nodes) (rec ∷ recs) fit (suc k) = steps_fit histories slot (n + 1) nodes recs (λ j. fit (suc j)) k

  nodes_fit : (slot : Slot) (n : ℕ) → AllFitPins (node_in (serial plan slot) n).core
  unfolding serial
  nodes_fit zero n = start_fits 0 plan.nodes n
  nodes_fit (suc slot) n = steps_fit (serial plan slot).histories slot 0 plan.nodes (serial plan slot).nodes (nodes_fit slot) n

level_fits : (width : ℕ) (driven : Option Word) → IfSome driven (λ value. value < 2 ^ width) → level_of driven 0 < 2 ^ width
level_fits width None h = pow_pos width
level_fits width (Some value) h = h

pub driven_levels_fit : DrivenLevelsFit
driven_levels_fit plan slot n port =
    level_fits (port_width port) (port_of (node_in (serial plan slot) n).core port).driven (nodes_fit plan slot n port).driven

-- after a slot too, by the steps of the slot
next_levels_fit : (plan : PlanRec) (slot : Slot) (n port : ℕ)
    → driven_level (node_by (map (λ (s : Stepped). s.rec) (steps_of plan slot (serial plan slot))) n) port < 2 ^ port_width port
unfolding serial
next_levels_fit plan slot n port = driven_levels_fit plan (suc slot) n port

-- ---- Wires

abbrev Levels : ℕ → List Entry → Type 0
Levels port es = AllByRecursion (λ (e : Entry). IsLevelOf port e.what) es

told_fits : (slot before after port : ℕ) → after < 2 ^ port_width port → Levels port (level_entries slot before after)
told_fits slot before after port fits = by_same (eqb after before)
  where
    by_same : (same : Bool) → Levels port (cond same [] (record { slot = slot; what = what.Level after } ∷ []))
    by_same true = tt
    by_same false = (fits, tt)

-- a wire joins ports of equal width
abbrev JoinsAlike : Arc → Type 0
JoinsAlike d = (joined : Joined) → d.joins ≡ Some joined → port_width joined.from_port ≡ port_width joined.to_port

wires_alike : (nodes : ℕ) (earlier wires : List WirePlan) → AllByRecursion (IsWire nodes) wires → AllByRecursion JoinsAlike (wire_arcs earlier wires)
wires_alike nodes earlier [] all = tt
wires_alike nodes earlier (wire ∷ wires) all = (
  λ joined is.
      let same = same_Some (record { from_port = wire.a_port; to_port = wire.b_port }) joined is in
      subst (λ (j : Joined). port_width j.from_port ≡ port_width j.to_port) same all.0.widths,
  wires_alike nodes (wire ∷ earlier) wires all.1,
)

links_alike : (links : List LinkPlan) (ds : List Arc) → AllByRecursion JoinsAlike ds → AllByRecursion JoinsAlike (link_arcs links ++ ds)
links_alike [] ds h = h
links_alike (link ∷ links) ds h = ((λ joined is. absurd (none-some joined is)), ((λ joined is. absurd (none-some joined is)), links_alike links ds h))

wire_levels : (slot : Slot) (before after : NodeRec) (emitted : Emitted) (end port : ℕ) (joins : Option Joined) (joined : Joined) → joins ≡ Some joined
    → driven_level after joined.from_port < 2 ^ port_width port → Levels port (carried_by slot before after emitted end joins)
wire_levels slot before after emitted end port joins joined is fits =
    subst (λ (j : Option Joined). Levels port (carried_by slot before after emitted end j)) (sym is)
    (told_fits slot (driven_level before joined.from_port) (driven_level after joined.from_port) port fits)

pub wires_carry_levels : WiresCarryLevels
wires_carry_levels plan wire arc joined from to is here joins =
    let alike = all-get JoinsAlike (arcs plan) wire arc (links_alike plan.links (wire_arcs [] plan.wires) (wires_alike (length plan.nodes) [] plan.wires is.wires)) here joined joins in
    all_history (λ (e : Entry). IsLevelOf joined.to_port e.what) plan wire (λ slot. new_levels slot alike) from to
  where
    new_levels : (slot : Slot) → port_width joined.from_port ≡ port_width joined.to_port → Levels joined.to_port (new_in plan wire slot)
    new_levels slot alike =
        let nodes = (serial plan slot).nodes in
        let steps = steps_of plan slot (serial plan slot) in
        let fits = subst (λ w. driven_level (node_by (map (λ (s : Stepped). s.rec) steps) arc.from) joined.from_port < 2 ^ w) alike (next_levels_fit plan slot arc.from joined.from_port) in
        subst (λ (d : Option Arc). Levels joined.to_port (added slot nodes steps d)) (sym here)
        (wire_levels slot (node_by nodes arc.from) (node_by (map (λ (s : Stepped). s.rec) steps) arc.from) (emitted_by steps arc.from) arc.from_end joined.to_port arc.joins joined joins fits)

-- What the pins of a node show by the wires that come to it.
use Rattle.std.proofs.Common.{◌≡◌, ℕ, suc, ◌+◌, ◌-◌, ◌<◌, ◌≤◌, Option, Some, None, List, length, get_or, slice_get, slice_index_or, refl, sym, ap, ◌∙◌, subst, arith, inl, inr}
use mathlib.Core.Logic.{◌⊎◌}
use Rattle.std.specs.List.{AllByRecursion}
use Rattle.std.proofs.lemmas.Bool.{cases_lt}
use Rattle.std.proofs.lemmas.Option.{none-some, same_Some}
use Rattle.xs_base.specs.Numbers.{Slot, Word, Position, LinkNumber, EndNumber, PortNumber}
use Rattle.xs_base.specs.declared.numbers.TheConstants.{PORTS}
use Rattle.xs_base.specs.declared.entry.Entry.{Entry}
use Rattle.xs_model.specs.Masks.{in_mask}
use Rattle.sys_plan.specs.Plan.{PlanRec, Arc, Joined, IsPlan, arcs, incoming, wire_to, delay_of}
use Rattle.sys_plan.proofs.Routes.{incoming-delay, incoming-is, comes-once, link-comes, link-arc, directed}
use Rattle.serial_model.specs.Serial.{serial, history, level_after, arrived_by, wire_level}
use Rattle.locality_laws.specs.Locality.{history_in, shown_in_serial}
use Rattle.locality_laws.specs.Horizon.{level_before}
use Rattle.locality_laws.specs.Levels.{IsLevelOf}
use Rattle.locality_laws.proofs.Links.{seen_levels, wires_show_later}
use Rattle.locality_laws.proofs.Levels.{wires_carry_levels}
use Rattle.locality_laws.proofs.Ends.{comes_to_it}
use Rattle.crossings.proofs.Histories.{history_in_order}
use Rattle.crossings.specs.Crossings.{AreInSendingOrder}
use Rattle.ahead_limits.specs.declared.horizon.Seen.{Seen}
use Rattle.ahead_limits.specs.Horizon.{HorizonRec, IsBelowAll}
use Rattle.node_seats.specs.declared.pins.Pins.{Pins}
use Rattle.node_seats.specs.declared.seat.Seat.{Seat}
use Rattle.node_seats.specs.Shown.{ArePins, IsShown, HaveCome, shown_by}
use Rattle.node_seats.proofs.Wired.{shows}
use Rattle.node_runners.specs.declared.inlets.Inlets.{Inlets}
use Rattle.node_runners.specs.Queue.{InletRec}
use Rattle.node_runners.specs.Wires.{wire_in, level_by, HasLevels, ArePortsApart, TakesLevels}
use Rattle.node_runners.specs.Ends.{inlet_by}
use Rattle.node_runners.specs.Sent.{OutletsRec}
use Rattle.node_runners.specs.Joins.{ComesTo}
use Rattle.node_runners.specs.Inside.{HearsLink, Hears, HasLinks, HaveComeBefore, IsRunner}
use Rattle.node_runners.proofs.Ends.{by-wire-at}
use Rattle.node_runners.proofs.Gots.{got}

-- ---- A wire that comes to a pin comes to an end from 8 on

module _ (plan : PlanRec) (plan_is : IsPlan plan) (n : Position) where
  -- no wire comes to a link end
  no-wire : (end : EndNumber) (wire : LinkNumber) (arc : Arc) (joined : Joined) → slice_get (arcs plan) wire ≡ Some arc → arc.joins ≡ Some joined → incoming plan n end ≡ Some wire → end < 8 → ⊥
  no-wire end wire arc joined here joins comes below =
      let link = link-comes plan n end below wire comes in
      let same : arc ≡ link.0 = same_Some arc link.0 (sym here ∙ link-arc plan plan_is wire link.0 link.1) in
      none-some joined (sym (directed plan plan_is wire link.0 link.1).joins ∙ sym (ap (λ (d : Arc). d.joins) same) ∙ joins)

  pub wire-end : (port : PortNumber) (wire : LinkNumber) → wire_to plan n port ≡ Some wire → (k : ℕ) × (incoming plan n (8 + k) ≡ Some wire)
  wire-end port wire at =
      let w = comes_to_it plan n port wire at in
      let end = w.arc.to_end in
      let comes : incoming plan n end ≡ Some wire = ap (λ m. incoming plan m end) (sym w.to) ∙ incoming-is plan plan_is wire w.arc w.here in
      by_order end comes (cases_lt end 8) (no-wire end wire w.arc w.joined w.here w.joins comes)
    where
      by_order : (end : EndNumber) → incoming plan n end ≡ Some wire → (end < 8) ⊎ (8 ≤ end) → (end < 8 → ⊥) → (k : ℕ) × (incoming plan n (8 + k) ≡ Some wire)
      by_order end comes (inl below) not = absurd (not below)
      by_order end comes (inr on) not =
          let same : end ≡ 8 + (end - 8) = omega (arith, on) in
          (end - 8, ap (incoming plan n) (sym same) ∙ comes)

  -- a wire comes to one pin
  pub one-pin : (port other : PortNumber) (wire : LinkNumber) → wire_to plan n port ≡ Some wire → wire_to plan n other ≡ Some wire → port ≡ other
  one-pin port other wire at also =
      let w = comes_to_it plan n port wire at in
      let v = comes_to_it plan n other wire also in
      let same : w.arc ≡ v.arc = same_Some w.arc v.arc (sym w.here ∙ v.here) in
      let joined : w.joined ≡ v.joined = same_Some w.joined v.joined (sym w.joins ∙ ap (λ (d : Arc). d.joins) same ∙ v.joins) in
      sym w.to_port ∙ ap (λ (j : Joined). j.to_port) joined ∙ v.to_port

-- ---- The wires of a node that runs ahead

module _ (plan : PlanRec) (plan_is : IsPlan plan) (n : Position) (clock : Slot) (horizon : HorizonRec) (inlets : Inlets) (outlets : OutletsRec) (published : List Slot) (levels : List Word)
    (links : HasLinks plan n clock horizon inlets outlets published) (come : (k : ℕ) → k < length inlets.wires → ComesTo plan n (8 + k) (wire_in inlets.wires k).port) where
  abbrev seen_by : EndNumber → Option Seen
  seen_by end = slice_index_or horizon.ends end None

  hears-some : (wire : LinkNumber) (o : Option LinkNumber) (s : Option Seen) (i : InletRec) → Hears plan clock o s i → o ≡ Some wire → (t : Seen) × (s ≡ Some t) × HearsLink plan clock wire t i
  hears-some wire None s i h is = absurd (none-some wire is)
  hears-some wire (Some link) None i h is = absurd h
  hears-some wire (Some link) (Some t) i h is = (t, refl, subst (λ l. HearsLink plan clock l t i) (same_Some link wire is) h)

  -- what was seen of it
  hears-wire : (k : ℕ) (wire : LinkNumber) → incoming plan n (8 + k) ≡ Some wire → (t : Seen) × (seen_by (8 + k) ≡ Some t) × HearsLink plan clock wire t (wire_in inlets.wires k).inlet
  hears-wire k wire at =
      let h = hears-some wire (incoming plan n (8 + k)) (seen_by (8 + k)) (inlet_by inlets (8 + k)) (links.hears (8 + k)) at in
      (h.0, h.1, subst (HearsLink plan clock wire h.0) (by-wire-at inlets k) h.2)

  pub has-levels : HasLevels inlets.wires
  has-levels k there =
      let c = come k there in
      let h = hears-wire k c.wire c.comes in
      let since = clock - delay_of plan c.wire in
      let w = comes_to_it plan n (wire_in inlets.wires k).port c.wire c.pin in
      record {
        port = c.there;
        in_order = subst AreInSendingOrder (sym h.2.queue) (history_in_order plan c.wire since h.0.seen);
        fit =
            subst (AllByRecursion (λ (e : Entry). IsLevelOf (wire_in inlets.wires k).port e.what)) (sym h.2.queue)
            (subst (λ p. AllByRecursion (λ (e : Entry). IsLevelOf p e.what) (history plan c.wire since h.0.seen)) w.to_port (wires_carry_levels plan c.wire w.arc w.joined since h.0.seen plan_is w.here w.joins));
      }

  pub ports-apart : ArePortsApart inlets.wires
  ports-apart j k at also same =
      let a = come j at in
      let b = come k also in
      let wire : a.wire ≡ b.wire = same_Some a.wire b.wire (sym a.pin ∙ ap (wire_to plan n) same ∙ b.pin) in
      let once = comes-once plan a.wire n n (8 + j) (8 + k) a.comes (subst (λ w. incoming plan n (8 + k) ≡ Some w) (sym wire) b.comes) in
      omega (arith, once.1)

  -- in this slot or a later one that is before the horizon, of which all levels have come
  module _ (came : HaveComeBefore plan n clock levels) (slot : Slot) (on : clock ≤ slot) (below : IsBelowAll horizon slot) (after : List Word)
      (takes : (k : ℕ) → k < length inlets.wires → get_or after (wire_in inlets.wires k).port 0 ≡ level_by slot (wire_in inlets.wires k) (get_or levels (wire_in inlets.wires k).port 0)) where
    at-pin : (port : PortNumber) (wire : LinkNumber) → port < PORTS → wire_to plan n port ≡ Some wire → (k : ℕ) → incoming plan n (8 + k) ≡ Some wire
        → get_or after port 0 ≡ wire_level slot (delay_of plan wire) (history_in (serial plan slot).histories wire)
    at-pin port wire within at k comes =
        let h = hears-wire k wire comes in
        let there : k < length inlets.wires = omega (arith, (links.reached (8 + k) wire comes).wire (omega arith)) in
        let c = come k there in
        let own : c.wire ≡ wire = same_Some c.wire wire (sym c.comes ∙ comes) in
        let pin : (wire_in inlets.wires k).port ≡ port = one-pin plan plan_is n (wire_in inlets.wires k).port port wire (subst (λ w. wire_to plan n (wire_in inlets.wires k).port ≡ Some w) own c.pin) at in
        let delay = delay_of plan wire in
        let seen = below.1 (8 + k) h.0 (got horizon.ends (8 + k) h.0 h.1) in
        ap (λ p. get_or after p 0) (sym pin)
        ∙ takes k there
        ∙ (λ i. level_after (get_or levels (pin i) 0) (arrived_by slot (h.2.inlet_delay i) (h.2.queue i)))
        ∙ (λ i. level_after (came port wire within at i) (arrived_by slot delay (history plan wire (clock - delay) h.0.seen)))
        ∙ seen_levels plan wire (clock - delay) h.0.seen slot (incoming-delay plan plan_is n (8 + k) wire comes) (omega (arith, on)) (omega (arith, seen, h.2.delay))

    -- they are what the wires show
    pub have-come : HaveCome plan (serial plan slot).histories n slot after
    have-come port wire within at = let e = wire-end plan plan_is n port wire at in at-pin port wire within at e.0 e.1

    pub come-before : HaveComeBefore plan n (slot + 1) after
    come-before port wire within at =
        let e = wire-end plan plan_is n port wire at in
        let next : suc slot ≡ slot + 1 = omega arith in
        have-come port wire within at
        ∙ wires_show_later plan wire slot (incoming-delay plan plan_is n (8 + e.0) wire e.1)
        ∙ ap (λ s. level_before plan wire (s - delay_of plan wire)) next

    -- so the pins show what they show in the serial machine
    module _ (pins : Pins) (from : Slot) (are : ArePins plan n from pins) (later : Pins) (t : TakesLevels slot pins later) (is : later.levels ≡ after) where
      -- they are looked at in this slot
      abbrev due : Pins
      due = record later { next = slot }

      due-are : ArePins plan n slot due
      due-are = record {
        script = t.script ∙ are.script;
        number = t.number ∙ are.number;
        wired = λ port within. ap (λ m. in_mask m port) t.wired ∙ are.wired port within;
        shown = record { steady = record { until_change = λ at l before. absurd (omega (arith, l, before)); levels = t.steady.levels }; next = omega arith };
      }

      pub pins-show : shown_by later slot ≡ shown_in_serial plan n slot
      pins-show = shows plan (serial plan slot).histories n slot slot due due-are (subst (HaveCome plan (serial plan slot).histories n slot) (sym is) have-come)

module _ {plan : PlanRec} {n : Position} {clock : Slot} {horizon : HorizonRec} {seat : Seat} {pins : Pins} {inlets : Inlets} {outlets : OutletsRec} {published : List Slot}
    (is : IsRunner plan n clock horizon seat pins inlets outlets published) where
  pub its-levels : HasLevels inlets.wires
  its-levels = has-levels plan is.plan_is n clock horizon inlets outlets published pins.levels is.links is.wires.come

  pub its-ports-apart : ArePortsApart inlets.wires
  its-ports-apart = ports-apart plan is.plan_is n clock horizon inlets outlets published pins.levels is.links is.wires.come

-- ---- They were looked at

pub pins-looked : (plan : PlanRec) (n from slot : ℕ) (pins come after : Pins) → ArePins plan n from pins → TakesLevels slot pins come → after.script ≡ come.script → after.number ≡ come.number → after.wired ≡ come.wired
    → IsShown (slot + 1) after → ArePins plan n (slot + 1) after
pins-looked plan n from slot pins come after are t script number wired shown = record {
  script = script ∙ t.script ∙ are.script;
  number = number ∙ t.number ∙ are.number;
  wired = λ port within. ap (λ m. in_mask m port) (wired ∙ t.wired) ∙ are.wired port within;
  shown = shown;
}

-- What of a history is in flight before a slot, and of what kinds it is.
use Rattle.std.proofs.Common.{◌≡◌, ℕ, ◌+◌, ◌-◌, ◌<◌, ◌≤◌, leb, Some, List, [], ◌∷◌, slice_get, refl, arith, inl, inr}
use mathlib.Core.Logic.{◌⊎◌}
use Rattle.std.specs.List.{AllByRecursion}
use Rattle.std.proofs.lemmas.Bool.{cases_lt, le-leb, lt-leb, lt-ltb}
use Rattle.xs_base.specs.Ids.{port_width}
use Rattle.xs_base.specs.Numbers.{Slot}
use Rattle.xs_base.specs.declared.token.Token.TheVariants.{Byte, Ctrl}
use Rattle.xs_base.specs.declared.entry.Entry.{Entry}
use Rattle.xs_base.specs.declared.entry.What.{What}
use Rattle.xs_base.specs.declared.entry.What.TheVariants.{Token, Credit, Level}
use Rattle.sys_plan.specs.Plan.{PlanRec, Arc, Joined, IsPlan, arcs, link_arcs}
use Rattle.sys_plan.proofs.Routes.{directed, link-arc, incoming-is}
use Rattle.serial_model.specs.Serial.{IsNoLevel, history, is_sent_within}
use Rattle.link_laws.specs.Travel.{in_flight}
use Rattle.snap_parts.specs.InFlight.{IsOfLink, IsOfWire, IsInFlight, AreLinkEntries, AreWireEntries}
use Rattle.locality_laws.specs.Levels.{IsLevelOf}
use Rattle.locality_laws.proofs.Entries.{all_weaker, filter_same}
use Rattle.locality_laws.proofs.Levels.{links_carry_no_level, wires_carry_levels}
use Rattle.locality_laws.proofs.Links.{history_from, history_before}
use Rattle.locality_laws.proofs.Serial.{upto, sent_before}
use Rattle.saved_laws.specs.Bytes.{CarriesByte, CarryBytes}
use Rattle.saved_laws.proofs.Stand.{link_stands, wire_stands}

-- ---- Lists

module _ (P Q R : Entry → Type 0) (from_both : (e : Entry) → P e → Q e → R e) where
  pub all_both : (es : List Entry) → AllByRecursion P es → AllByRecursion Q es → AllByRecursion R es
  all_both [] h k = tt
  all_both (e ∷ es) h k = (from_both e h.0 k.0, all_both es h.1 k.1)

-- ---- In flight

module _ (plan : PlanRec) (l : ℕ) (slot : Slot) (delay : ℕ) where
  flies : AllByRecursion (IsInFlight slot delay) (history plan l (slot - delay) slot)
  flies =
      all_both (λ (e : Entry). slot - delay ≤ e.slot) (λ (e : Entry). e.slot < slot) (IsInFlight slot delay) (λ e h k. record { sent = h; before = k })
      (history plan l (slot - delay) slot) (history_from plan l (slot - delay) slot) (history_before plan l (slot - delay) slot)

-- of what was sent before a slot, that was sent a delay before it or later which has not arrived
same_test : (slot : Slot) (delay : ℕ) (e : Entry) → e.slot < slot → is_sent_within (slot - delay) slot e ≡ leb slot (e.slot + delay)
same_test slot delay e h = by_test (cases_lt (e.slot + delay) slot)
  where
    by_test : (e.slot + delay < slot) ⊎ (slot ≤ e.slot + delay) → is_sent_within (slot - delay) slot e ≡ leb slot (e.slot + delay)
    by_test (inl past) = rw (lt-leb (slot - delay) e.slot (omega (arith, past)), lt-leb slot (e.slot + delay) past) refl
    by_test (inr later) = rw (le-leb (slot - delay) e.slot (omega (arith, later)), lt-ltb e.slot slot h, le-leb slot (e.slot + delay) later) refl

pub flight_is : (plan : PlanRec) (l : ℕ) (slot : Slot) (delay : ℕ) → history plan l (slot - delay) slot ≡ in_flight slot delay (upto plan l slot)
flight_is plan l slot delay =
    filter_same (is_sent_within (slot - delay) slot) (λ (e : Entry). leb slot (e.slot + delay)) (upto plan l slot)
    (all_weaker (λ (e : Entry). e.slot < slot) (λ (e : Entry). is_sent_within (slot - delay) slot e ≡ leb slot (e.slot + delay)) (λ e h. same_test slot delay e h)
    (upto plan l slot) (sent_before plan l slot))

-- ---- Links

of_link : (w : What) → IsNoLevel w → CarriesByte w → IsOfLink w
of_link (Token (Byte b)) none byte = byte
of_link (Token (Ctrl c)) none byte = byte
of_link Credit none byte = tt
of_link (Level n) none byte = none

module _ (plan : PlanRec) (is : IsPlan plan) (l : ℕ) (d : Arc) (here : slice_get (link_arcs plan.links) l ≡ Some d) (slot : Slot) where
  no_levels : AllByRecursion (λ (e : Entry). IsNoLevel e.what) (history plan l (slot - d.delay) slot)
  no_levels =
      links_carry_no_level plan d.to d.to_end l (slot - d.delay) slot (omega (arith, (directed plan is l d here).to_end))
      (incoming-is plan is l d (link-arc plan is l d here))

  pub link_entries : CarryBytes (history plan l (slot - d.delay) slot) → AreLinkEntries slot d.delay (history plan l (slot - d.delay) slot)
  link_entries bytes = record {
    in_flight = flies plan l slot d.delay;
    kinds = all_both (λ (e : Entry). IsNoLevel e.what) (λ (e : Entry). CarriesByte e.what) (λ (e : Entry). IsOfLink e.what) (λ e h k. of_link e.what h k)
        (history plan l (slot - d.delay) slot) no_levels bytes;
    order = link_stands plan l d (link-arc plan is l d here) (directed plan is l d here).joins (slot - d.delay) slot;
  }

-- ---- Wires

of_wire : (port : ℕ) (w : What) → IsLevelOf port w → IsOfWire (port_width port) w
of_wire port (Token t) h = h
of_wire port Credit h = h
of_wire port (Level n) h = h

module _ (plan : PlanRec) (is : IsPlan plan) (l : ℕ) (d : Arc) (joined : Joined) (here : slice_get (arcs plan) l ≡ Some d) (joins : d.joins ≡ Some joined) (slot : Slot) where
  pub wire_entries : AreWireEntries slot d.delay (port_width joined.to_port) (history plan l (slot - d.delay) slot)
  wire_entries = record {
    in_flight = flies plan l slot d.delay;
    kinds = all_weaker (λ (e : Entry). IsLevelOf joined.to_port e.what) (λ (e : Entry). IsOfWire (port_width joined.to_port) e.what) (λ e h. of_wire joined.to_port e.what h)
        (history plan l (slot - d.delay) slot) (wires_carry_levels plan l d joined (slot - d.delay) slot is here joins);
    order = wire_stands plan l d joined here joins (slot - d.delay) slot;
  }

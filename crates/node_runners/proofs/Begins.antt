-- A node before its first slot.
use Rattle.std.proofs.Common.{◌≡◌, ℕ, zero, suc, ◌+◌, ◌-◌, ◌^◌, ◌<◌, ◌≤◌, Option, Some, None, List, [], ◌∷◌, length, map, replicate, get_or, slice_get, slice_index, slice_index_or, option_map, refl, sym, ap, ◌∙◌, subst, arith, inl, inr}
use Rattle.std.proofs.lemmas.Bool.{cases_lt}
use Rattle.std.proofs.lemmas.Option.{none-some}
use Rattle.std.proofs.lemmas.List.{length-map}
use Rattle.xs_base.specs.Numbers.{Slot, Word, Position, LinkNumber, EndNumber}
use Rattle.xs_base.specs.Batch.{BatchRec}
use Rattle.xs_model.specs.declared.event.Event.{Event}
use Rattle.xs_model.specs.Record.{NodeRec}
use Rattle.sys_plan.specs.declared.NodePlan.{NodePlan}
use Rattle.sys_plan.specs.Plan.{PlanRec, IsPlan, arc_count, incoming, outgoing, delay_of, gaps_of, ends_in, count_from, count_to}
use Rattle.sys_plan.specs.declared.system_plan.TheConstants.{ENDS}
use Rattle.sys_plan.proofs.Routes.{incoming-past, outgoing-past, at-end-in}
use Rattle.sys_plan.proofs.Told.{none-comes-past}
use Rattle.step_model.specs.Start.{node_of}
use Rattle.serial_model.specs.Serial.{serial, history, level_after}
use Rattle.locality_laws.specs.Locality.{events_in}
use Rattle.locality_laws.specs.Horizon.{level_before}
use Rattle.ahead_limits.specs.declared.horizon.Seen.{Seen}
use Rattle.ahead_limits.specs.Horizon.{HorizonRec}
use Rattle.ahead_limits.specs.Schedule.{horizon_of, seen_of_link}
use Rattle.node_seats.specs.declared.pins.Pins.{Pins}
use Rattle.node_seats.specs.declared.seat.Seat.{Seat}
use Rattle.node_seats.specs.Seats.{IsSeat, Plays}
use Rattle.node_seats.specs.Shown.{ArePins}
use Rattle.node_runners.specs.declared.inlets.Inlets.{Inlets}
use Rattle.node_runners.specs.declared.wire_inlets.WireInlet.{WireInlet}
use Rattle.node_runners.specs.Queue.{no_inlet, inlet_at}
use Rattle.node_runners.specs.Wires.{no_wire_in, wire_in}
use Rattle.node_runners.specs.Ends.{IsThere, inlet_by}
use Rattle.node_runners.specs.Sent.{WireOutRec, OutletsRec, wire_out, batch_at, batch_by}
use Rattle.node_runners.specs.Starts.{first_inlet, FirstIn, FirstOut}
use Rattle.node_runners.specs.Inside.{Hears, Tells, HaveComeBefore, Sits, IsRunner}
use Rattle.node_runners.proofs.Ends.{by-link, by-wire, sent-link, sent-wire}
use Rattle.node_runners.proofs.Driven.{history-none, node-start, none-driven}

-- ---- The node

node-there : (nodes : List NodePlan) (k : ℕ) → k < length nodes → (node : NodePlan) × (slice_get nodes k ≡ Some node)
node-there [] k h = absurd (omega (arith, h))
node-there (x ∷ nodes) zero h = (x, refl)
node-there (x ∷ nodes) (suc k) h = node-there nodes k (omega (arith, h))

abbrev no_events : NodePlan → List Event
no_events node = []

events-none : (nodes : List NodePlan) (k : ℕ) → get_or (map no_events nodes) k [] ≡ []
events-none [] k = refl
events-none (x ∷ nodes) zero = refl
events-none (x ∷ nodes) (suc k) = events-none nodes k

events-start : (plan : PlanRec) (n : Position) → events_in (serial plan 0) n ≡ []
unfolding serial
events-start plan n = events-none plan.nodes n

sits-start : (plan : PlanRec) (n : Position) (seat : Seat) → n < length plan.nodes → ((node : NodePlan) → slice_get plan.nodes n ≡ Some node → Plays plan 0 n node seat (node_of node (gaps_of plan n)) []) → IsSeat 0 seat → Sits plan n 0 seat
sits-start plan n seat within plays ready =
    let there = node-there plan.nodes n within in
    record {
      node = there.0;
      here = there.1;
      ready = ready;
      plays =
          subst (λ (r : NodeRec). Plays plan 0 n there.0 seat r (events_in (serial plan 0) n)) (sym (node-start plan n there.0 there.1))
          (subst (λ (es : List Event). Plays plan 0 n there.0 seat (node_of there.0 (gaps_of plan n)) es) (sym (events-start plan n)) (plays there.0 there.1));
    }

-- ---- Its ends

pub zero-at : (k i : ℕ) → slice_index (replicate k 0) i ≡ 0
zero-at zero i = refl
zero-at (suc k) zero = refl
zero-at (suc k) (suc i) = zero-at k i

past-list : {X : Type 0} (xs : List X) (end : ℕ) (default : X) → length xs ≤ end → get_or xs end default ≡ default
past-list [] end default h = refl
past-list (x ∷ xs) zero default h = absurd (omega (arith, h))
past-list (x ∷ xs) (suc end) default h = past-list xs end default (omega (arith, h))

by_end : (plan : PlanRec) (n : Position) (f : ℕ → Option Seen) (end : ℕ) → (ENDS ≤ end → f end ≡ None) → slice_index_or (map f (ends_in plan n)) end None ≡ f end
by_end plan n f end past = elim (cases_lt end ENDS) [
  | inl within ↦ at-end-in plan n f None end within
  | inr on ↦ past-list (map f (ends_in plan n)) end None (omega (arith, on, length-map (ends_in plan n) f)) ∙ sym (past on)
]

module _ (plan : PlanRec) (is : IsPlan plan) (n : Position) (limit : Slot) where
  abbrev count : ℕ
  count = arc_count plan

  abbrev nothing_seen : List Slot
  nothing_seen = replicate count 0

  abbrev pub horizon : HorizonRec
  horizon = horizon_of plan limit (replicate (arc_count plan) 0) n

  hears-first : (l : Option LinkNumber) → Hears plan 0 l (option_map (seen_of_link plan nothing_seen) l) (first_inlet plan l)
  hears-first None = (refl, refl)
  hears-first (Some link) = record {
    delay = refl;
    inlet_delay = refl;
    queue = sym (ap (λ t. history plan link (0 - delay_of plan link) t) (zero-at count link) ∙ history-none plan link (0 - delay_of plan link));
    ahead = omega arith;
  }

  seen-first : (end : EndNumber) → slice_index_or horizon.ends end None ≡ option_map (seen_of_link plan nothing_seen) (incoming plan n end)
  seen-first end = by_end plan n (λ e. option_map (seen_of_link plan nothing_seen) (incoming plan n e)) end (λ past. ap (option_map (seen_of_link plan nothing_seen)) (none-comes-past plan is n end past))

  module _ (inlets : Inlets) (few : length inlets.links.ends ≤ 8)
      (fresh : (end : ℕ) → end < length inlets.links.ends → inlet_at inlets.links.ends end ≡ first_inlet plan (incoming plan n end))
      (rest : (end : ℕ) → length inlets.links.ends ≤ end → end < 8 → incoming plan n end ≡ None)
      (all : length inlets.wires ≡ count_to n plan.wires) (wires : (k : ℕ) → k < length inlets.wires → FirstIn plan n (8 + k) (wire_in inlets.wires k)) where
    none-there : (o : Option LinkNumber) → o ≡ None → no_inlet ≡ first_inlet plan o
    none-there o none = sym (ap (first_inlet plan) none)

    link-at : (end : EndNumber) → end < 8 → inlet_at inlets.links.ends end ≡ first_inlet plan (incoming plan n end)
    link-at end below = elim (cases_lt end (length inlets.links.ends)) [
      | inl h ↦ fresh end h
      | inr h ↦ past-list inlets.links.ends end no_inlet h ∙ none-there (incoming plan n end) (rest end h below)
    ]

    none-after-wires : (end : EndNumber) → 8 + length inlets.wires ≤ end → incoming plan n end ≡ None
    none-after-wires end h = incoming-past plan is n end (omega (arith, h, all))

    wire-at : (end : EndNumber) → 8 ≤ end → (wire_in inlets.wires (end - 8)).inlet ≡ first_inlet plan (incoming plan n end)
    wire-at end on = elim (cases_lt (end - 8) (length inlets.wires)) [
      | inl h ↦
          let same : 8 + (end - 8) ≡ end = omega (arith, on) in
          (wires (end - 8) h).inlet ∙ ap (λ e. first_inlet plan (incoming plan n e)) same
      | inr h ↦
          ap (λ (w : WireInlet). w.inlet) (past-list inlets.wires (end - 8) no_wire_in h)
          ∙ none-there (incoming plan n end) (none-after-wires end (omega (arith, on, h)))
    ]

    inlet-first : (end : EndNumber) → inlet_by inlets end ≡ first_inlet plan (incoming plan n end)
    inlet-first end = elim (cases_lt end 8) [ inl below ↦ by-link inlets end below ∙ link-at end below | inr on ↦ by-wire inlets end on ∙ wire-at end on ]

    hears-start : (end : EndNumber) → Hears plan 0 (incoming plan n end) (slice_index_or horizon.ends end None) (inlet_by inlets end)
    hears-start end =
        subst (λ (s : Option Seen). Hears plan 0 (incoming plan n end) s (inlet_by inlets end)) (sym (seen-first end))
        (subst (Hears plan 0 (incoming plan n end) (option_map (seen_of_link plan nothing_seen) (incoming plan n end))) (sym (inlet-first end)) (hears-first (incoming plan n end)))

    reached-start : (end : EndNumber) (link : LinkNumber) → incoming plan n end ≡ Some link → IsThere end (length inlets.links.ends) (length inlets.wires)
    reached-start end link at = record {
      link = λ below. elim (cases_lt end (length inlets.links.ends)) [ inl h ↦ h | inr h ↦ absurd (none-some link (sym (rest end h below) ∙ at)) ];
      wire = λ on. elim (cases_lt end (8 + length inlets.wires)) [ inl h ↦ h | inr h ↦ absurd (none-some link (sym (none-after-wires end h) ∙ at)) ];
    }

    module _ (outlets : OutletsRec) (few_out : length outlets.links ≤ 8) (empty : (end : ℕ) → (batch_at outlets.links end).entries ≡ [])
        (no_more : (end : ℕ) → length outlets.links ≤ end → end < 8 → outgoing plan n end ≡ None)
        (all_out : length outlets.wires ≡ count_from n plan.wires) (wires_out : (k : ℕ) → k < length outlets.wires → FirstOut plan n (8 + k) (wire_out outlets.wires k)) where
      out-there : (end : EndNumber) (link : LinkNumber) → outgoing plan n end ≡ Some link → IsThere end (length outlets.links) (length outlets.wires)
      out-there end link at = record {
        link = λ below. elim (cases_lt end (length outlets.links)) [ inl h ↦ h | inr h ↦ absurd (none-some link (sym (no_more end h below) ∙ at)) ];
        wire = λ on. elim (cases_lt end (8 + length outlets.wires)) [ inl h ↦ h | inr h ↦ absurd (none-some link (sym (outgoing-past plan is n end (omega (arith, h, all_out))) ∙ at)) ];
      }

      nothing-told : (k : ℕ) → k < length outlets.wires → (wire_out outlets.wires k).batch.entries ≡ []
      nothing-told k h = ap (λ (w : WireOutRec). w.batch.entries) (wires_out k h).nothing

      nothing-sent : (end : EndNumber) → IsThere end (length outlets.links) (length outlets.wires) → (batch_by outlets end).entries ≡ []
      nothing-sent end there = elim (cases_lt end 8) [
        | inl below ↦ ap (λ (b : BatchRec). b.entries) (sent-link outlets end below) ∙ empty end
        | inr on ↦ ap (λ (b : BatchRec). b.entries) (sent-wire outlets end on) ∙ nothing-told (end - 8) (omega (arith, on, there.wire on))
      ]

      tells-start : (end : EndNumber) (link : LinkNumber) → outgoing plan n end ≡ Some link → Tells plan 0 link end outlets (replicate ENDS 0)
      tells-start end link at =
          let there = out-there end link at in
          record { there = there; batch = nothing-sent end there ∙ sym (history-none plan link (slice_index (replicate ENDS 0) end)) }

      came-start : (levels : List Word) → levels ≡ replicate 29 0 → HaveComeBefore plan n 0 levels
      came-start levels is_zero port wire within at =
          let none : 0 - delay_of plan wire ≡ 0 = omega arith in
          ap (λ (xs : List Word). get_or xs port 0) is_zero ∙ zero-at 29 port
          ∙ sym (ap (level_before plan wire) none ∙ ap (level_after 0) (history-none plan wire 0))

      pub runner-start : (seat : Seat) (pins : Pins) → limit < 2 ^ 32 → n < length plan.nodes
          → ((node : NodePlan) → slice_get plan.nodes n ≡ Some node → Plays plan 0 n node seat (node_of node (gaps_of plan n)) []) → IsSeat 0 seat → ArePins plan n 0 pins → pins.levels ≡ replicate 29 0 → pins.next ≡ 0
          → IsRunner plan n 0 horizon seat pins inlets outlets (replicate ENDS 0)
      runner-start seat pins small within plays ready pins_are levels due =
          let node = node-there plan.nodes n within in
          record {
            plan_is = is;
            within = omega arith;
            small = small;
            seat_is = sits-start plan n seat within plays ready;
            pins_are = pins_are;
            noted = λ less. absurd (omega (arith, less, due));
            links = record {
              all_ends = refl;
              few_inlets = few;
              few_batches = few_out;
              all_published = refl;
              hears = hears-start;
              reached = reached-start;
              tells = tells-start;
              behind = λ end. omega (arith, zero-at ENDS end);
            };
            wires = record {
              come = λ k h. (wires k h).comes;
              came = came-start pins.levels levels;
              leave = λ k h. (wires_out k h).leaves;
              told = λ k h. ap (λ (w : WireOutRec). w.sent) (wires_out k h).nothing ∙ sym (none-driven plan n node.0 node.1 (wire_out outlets.wires k).port);
            };
          }

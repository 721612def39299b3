-- A node that goes over quiet slots at once.
use Rattle.std.proofs.Common.{◌≡◌, ℕ, ◌+◌, ◌-◌, ◌^◌, ◌<◌, ◌≤◌, ◌⊎◌, inl, inr, Bool, true, false, Option, Some, None, List, length, map, get_or, slice_index_or, refl, sym, ap, ◌∙◌, subst, arith}
use Rattle.std.specs.Prelude.{◌||◌, not}
use Rattle.std.proofs.lemmas.List.{length-map}
use Rattle.std.proofs.lemmas.Bool.{true≢false, or_parts, cases_lt}
use Rattle.xs_base.specs.Numbers.{Slot, Word, Position, LinkNumber, EndNumber}
use Rattle.xs_model.specs.declared.event.Event.{Event}
use Rattle.xs_model.specs.declared.outside.PinView.{PinView}
use Rattle.xs_model.specs.Record.{CoreRec, NodeRec}
use Rattle.sys_plan.specs.Plan.{PlanRec, incoming, gaps_of}
use Rattle.sys_plan.proofs.Routes.{incoming-delay}
use Rattle.step_model.specs.Fixed.{Fixed}
use Rattle.step_model.specs.Start.{fixed_of}
use Rattle.serial_model.specs.Serial.{serial, driven_level, level_after}
use Rattle.locality_laws.specs.Locality.{node_in, events_in, shown_in_serial}
use Rattle.locality_laws.proofs.Ends.{gives_leaving}
use Rattle.quiet_model.specs.Slots.{NoneBefore, IsFirst}
use Rattle.quiet_model.specs.Still.{still}
use Rattle.quiet_model.specs.Stirs.{some_eligible, ports_stir, stirs}
use Rattle.quiet_laws.specs.Undisturbed.{undisturbed_until, ShowsAll}
use Rattle.quiet_laws.specs.Quiet.{StirsFirst}
use Rattle.busy_slots.specs.Busy.{brings_something, something_arrives, is_busy}
use Rattle.busy_slots.specs.Serial.{WasIdle, IdleWhereNotBusy}
use Rattle.busy_slots.specs.Arrivals.{WaitingStays, FirstBusyByBoth}
use Rattle.ahead_limits.specs.declared.horizon.Seen.{Seen}
use Rattle.ahead_limits.specs.Horizon.{HorizonRec, horizon_at, may_run, IsBelowAll}
use Rattle.ahead_limits.specs.Schedule.{clock_after}
use Rattle.core_step.specs.Core.{StandsAt}
use Rattle.core_step.specs.PinLevels.{from_outside}
use Rattle.node_seats.specs.declared.pins.Pins.{Pins}
use Rattle.node_seats.specs.declared.seat.Seat.{Seat}
use Rattle.node_seats.specs.Seats.{Plays, SkipsOn}
use Rattle.node_seats.specs.Shown.{IsShown, ArePins, shown_by}
use Rattle.node_seats.proofs.Seats.{plays-later}
use Rattle.node_runners.specs.declared.inlets.Inlets.{Inlets}
use Rattle.node_runners.specs.declared.wire_inlets.WireInlet.{WireInlet}
use Rattle.node_runners.specs.Queue.{LinkInletsRec, InletRec, AllWait, inlet_at, after_slot, some_arrive}
use Rattle.node_runners.specs.Wires.{wire_in, wire_after, level_by, TakesLevels}
use Rattle.node_runners.specs.Ends.{inlet_by}
use Rattle.node_runners.specs.Sent.{OutletsRec, wire_out}
use Rattle.node_runners.specs.Joins.{ComesTo, LeavesFrom}
use Rattle.node_runners.specs.Inside.{Hears, HasLinks, HaveComeBefore, HasWires, IsRunner}
use Rattle.node_runners.proofs.Gots.{got}
use Rattle.node_runners.proofs.Ends.{by-link, after-wire, wire-after}
use Rattle.node_runners.proofs.Driven.{told-is-driven}
use Rattle.node_runners.proofs.Coming.{pins-show, come-before, pins-looked}
use Rattle.node_runners.proofs.Slots.{links-ahead, waits, arrivals-are, hears-after}
use Rattle.node_runners.proofs.Ahead.{IsHorizon, is_horizon}

module _ (plan : PlanRec) (n : Position) (clock : Slot) (horizon : HorizonRec) (seat : Seat) (pins : Pins) (inlets : Inlets) (outlets : OutletsRec) (published : List Slot)
    (is : IsRunner plan n clock horizon seat pins inlets outlets published) (stop : Slot) (far : IsHorizon horizon clock stop) where
  pub all_wait : AllWait clock inlets.links.ends
  all_wait = waits plan is.plan_is n clock horizon inlets outlets published is.links

  -- what arrives of what waits is what arrives in the serial machine
  same_arrivals : (slot : Slot) → clock ≤ slot → slot < stop → some_arrive inlets.links.ends slot ≡ something_arrives plan n slot
  same_arrivals slot on before = ap brings_something (arrivals-are plan is.plan_is n clock horizon inlets outlets published is.links slot on (far.below slot on before))

  module _ (arrival : Slot) (found : IsFirst (some_arrive inlets.links.ends) clock stop arrival) (early : arrival ≤ stop) where
    first_arrives : IsFirst (something_arrives plan n) clock stop arrival
    first_arrives = record {
      none_before = λ slot on before. sym (same_arrivals slot on (omega (arith, before, early))) ∙ found.none_before slot on before;
      there = there found.there;
    }
      where
        there : ((clock ≤ arrival) × (arrival < stop) × (some_arrive inlets.links.ends arrival ≡ true)) ⊎ (arrival ≡ stop)
            → ((clock ≤ arrival) × (arrival < stop) × (something_arrives plan n arrival ≡ true)) ⊎ (arrival ≡ stop)
        there (inl some) = inl (some.0, some.1, sym (same_arrivals arrival some.0 some.1) ∙ some.2)
        there (inr none) = inr none

    module _ (by_both : FirstBusyByBoth) (to : Slot)
        (stirring : (rec : NodeRec) (shown : Slot → PinView) → StandsAt seat.core rec clock → ((slot : Slot) → ShowsAll (shown slot)) → StirsFirst seat.core.fixed rec clock shown arrival to) where
      abbrev rec : NodeRec
      rec = node_in (serial plan clock) n

      abbrev fixed : Fixed
      fixed = fixed_of is.seat_is.node (gaps_of plan n)

      first_stirs : StirsFirst fixed rec clock (shown_in_serial plan n) arrival to
      first_stirs =
          subst (λ (f : Fixed). StirsFirst f rec clock (shown_in_serial plan n) arrival to) is.seat_is.plays.fixed
          (stirring rec (shown_in_serial plan n) is.seat_is.plays.stands (λ slot. refl))

      first_busy : IsFirst (is_busy plan n) clock stop to
      first_busy = by_both plan n is.seat_is.node clock stop arrival to is.seat_is.here first_arrives first_stirs

      pub not_busy : NoneBefore (is_busy plan n) clock to
      not_busy = first_busy.none_before

      pub not_earlier : clock ≤ to
      not_earlier = by_there first_busy.there
        where
          by_there : ((clock ≤ to) × (to < stop) × (is_busy plan n to ≡ true)) ⊎ (to ≡ stop) → clock ≤ to
          by_there (inl busy) = busy.0
          by_there (inr at) = omega (arith, at, far.on)

      pub not_past : to ≤ stop
      not_past = by_there first_busy.there
        where
          by_there : ((clock ≤ to) × (to < stop) × (is_busy plan n to ≡ true)) ⊎ (to ≡ stop) → to ≤ stop
          by_there (inl busy) = omega (arith, busy.1)
          by_there (inr at) = omega (arith, at)

      -- where the node may run on, the slot is busy
      pub no_more : may_run horizon to ≡ true → is_busy plan n to ≡ true
      no_more may = by_there first_busy.there
        where
          by_there : ((clock ≤ to) × (to < stop) × (is_busy plan n to ≡ true)) ⊎ (to ≡ stop) → is_busy plan n to ≡ true
          by_there (inl busy) = busy.2
          by_there (inr at) = absurd (true≢false (sym may ∙ ap (may_run horizon) at ∙ far.stops))

      module _ (idle : IdleWhereNotBusy) (waiting : WaitingStays) where
        was_idle : WasIdle plan n is.seat_is.node clock to
        was_idle = idle plan n is.seat_is.node clock to is.seat_is.here not_earlier not_busy

        nothing_arrives : NoneBefore (something_arrives plan n) clock to
        nothing_arrives slot on before = (or_parts (something_arrives plan n slot) (stirs (node_in (serial plan slot) n) slot) (not_busy slot on before)).0

        -- over these slots what waits at a link end stays
        link_later : (end : EndNumber) → end < 8 → (l : Option LinkNumber) (s : Option Seen) (i : InletRec) → incoming plan n end ≡ l
            → Hears plan clock l s i → ((t : Seen) → s ≡ Some t → to ≤ horizon_at t) → Hears plan to l s i
        link_later end link_end None s i at h below = h
        link_later end link_end (Some link) None i at h below = h
        link_later end link_end (Some link) (Some s) i at h below =
            let ahead : to ≤ horizon_at s = below s refl in
            record {
              delay = h.delay;
              inlet_delay = h.inlet_delay;
              queue =
                  h.queue
                  ∙ waiting plan n end link clock to s.seen link_end at (incoming-delay plan is.plan_is n end link at) not_earlier (omega (arith, ahead, h.delay)) nothing_arrives;
              ahead = ahead;
            }

        seen_ahead : (end : EndNumber) (t : Seen) → slice_index_or horizon.ends end None ≡ Some t → to ≤ horizon_at t
        seen_ahead end t seen =
            let sees = got horizon.ends end t seen in
            let a = far.ahead end t sees (links-ahead plan n clock horizon inlets outlets published is.links end t sees) in
            omega (arith, a, not_past)

        module _ (some : clock < to) (inlets_after : Inlets) (links_same : inlets_after.links ≡ inlets.links) (left : inlets_after.wires ≡ map (wire_after (to - 1)) inlets.wires) where
          last_next : to - 1 + 1 ≡ to
          last_next = omega (arith, some)

          hears_link : (end : EndNumber) → end < 8 → Hears plan to (incoming plan n end) (slice_index_or horizon.ends end None) (inlet_by inlets_after end)
          hears_link end below =
              let same : inlet_by inlets end ≡ inlet_by inlets_after end =
              by-link inlets end below ∙ sym (ap (λ (x : LinkInletsRec). inlet_at x.ends end) links_same) ∙ sym (by-link inlets_after end below) in
              subst (Hears plan to (incoming plan n end) (slice_index_or horizon.ends end None)) same
              (link_later end below (incoming plan n end) (slice_index_or horizon.ends end None) (inlet_by inlets end) refl (is.links.hears end) (seen_ahead end))

          hears_wire : (end : EndNumber) → 8 ≤ end → Hears plan to (incoming plan n end) (slice_index_or horizon.ends end None) (inlet_by inlets_after end)
          hears_wire end on =
              subst (Hears plan to (incoming plan n end) (slice_index_or horizon.ends end None)) (sym (after-wire (to - 1) inlets inlets_after left end on))
              (subst (λ t. Hears plan t (incoming plan n end) (slice_index_or horizon.ends end None) (after_slot (to - 1) (inlet_by inlets end))) last_next
              (hears-after plan is.plan_is n clock (to - 1) (omega (arith, some)) (incoming plan n end) (slice_index_or horizon.ends end None) (inlet_by inlets end) (is.links.hears end)
              (λ t seen. let a = seen_ahead end t seen in omega (arith, a, some))))

          wires_count : length inlets_after.wires ≡ length inlets.wires
          wires_count = ap length left ∙ length-map inlets.wires (wire_after (to - 1))

          links_later : HasLinks plan n to horizon inlets_after outlets published
          links_later = record {
            all_ends = is.links.all_ends;
            few_inlets = omega (arith, is.links.few_inlets, ap (λ (x : LinkInletsRec). length x.ends) links_same);
            few_batches = is.links.few_batches;
            all_published = is.links.all_published;
            hears = λ end. elim (cases_lt end 8) [ inl below ↦ hears_link end below | inr on ↦ hears_wire end on ];
            reached = λ end link at.
                let r = is.links.reached end link at in
                record { link = λ l. omega (arith, r.link l, ap (λ (x : LinkInletsRec). length x.ends) links_same); wire = λ l. omega (arith, r.wire l, wires_count) };
            tells = λ end link at.
                let t = is.links.tells end link at in
                record { there = t.there; batch = t.batch ∙ sym (was_idle.sent end link _ at) };
            behind = λ end. let b = is.links.behind end in omega (arith, b, not_earlier);
          }

          -- and what its ports drive too
          same_driven : (k : ℕ) (l : LeavesFrom plan n (8 + k) (wire_out outlets.wires k).port)
              → driven_level (node_in (serial plan clock) n) (wire_out outlets.wires k).port ≡ driven_level (node_in (serial plan to) n) (wire_out outlets.wires k).port
          same_driven k l =
              let drives = told-is-driven plan n is.seat_is.node is.seat_is.here (8 + k) l.wire l.leaves l.joined l.joins in
              let at = gives_leaving plan is.plan_is n (8 + k) l.wire l.leaves in
              ap (driven_level (node_in (serial plan clock) n)) (sym l.from)
              ∙ sym (drives clock)
              ∙ sym (ap (level_after 0) (was_idle.sent (8 + k) l.wire 0 at))
              ∙ drives to
              ∙ ap (driven_level (node_in (serial plan to) n)) l.from

          wires_later : (levels : List Word) → HaveComeBefore plan n to levels → HasWires plan n to levels inlets_after.wires outlets.wires
          wires_later levels came = record {
            come = λ k within.
                let same : (wire_in inlets.wires k).port ≡ (wire_in inlets_after.wires k).port =
                sym (ap (λ (ws : List WireInlet). (wire_in ws k).port) left ∙ ap (λ (w : WireInlet). w.port) (wire-after (to - 1) inlets.wires k)) in
                subst (ComesTo plan n (8 + k)) same (is.wires.come k (omega (arith, within, wires_count)));
            came = came;
            leave = is.wires.leave;
            told = λ k within. is.wires.told k within ∙ same_driven k (is.wires.leave k within);
          }

          pub runner_skipped : (after : Seat) (pins_after : Pins) (view : PinView) → view ≡ shown_in_serial plan n (to - 1) → view ≡ pins_after.view → SkipsOn clock to view seat after → ArePins plan n to pins_after
              → HaveComeBefore plan n to pins_after.levels → IsRunner plan n to horizon after pins_after inlets_after outlets published
          runner_skipped after pins_after view shows looked skips pins_are came = record {
            plan_is = is.plan_is;
            within = let w = far.within is.within in omega (arith, w, not_past);
            small = is.small;
            seat_is = record {
              node = is.seat_is.node;
              here = is.seat_is.here;
              ready = skips.next;
              plays =
                  subst (λ (r : NodeRec). Plays plan to n is.seat_is.node after r (events_in (serial plan to) n)) (sym was_idle.rec)
                  (subst (λ (es : List Event). Plays plan to n is.seat_is.node after (undisturbed_until fixed rec clock (shown_in_serial plan n) to) es) (sym was_idle.events)
                  (plays-later plan clock to n is.seat_is.node seat after rec (events_in (serial plan clock) n) (shown_in_serial plan n) view is.seat_is.plays (λ slot. refl) (sym shows) skips));
            };
            pins_are = pins_are;
            noted = λ _. skips.noted ∙ ap from_outside looked;
            links = links_later;
            wires = wires_later pins_after.levels came;
          }

-- ---- Where a thread may issue

-- a look at the seat left it as it was
pub with_seat : (plan : PlanRec) (n : Position) (clock : Slot) (horizon : HorizonRec) (seat after : Seat) (pins : Pins) (inlets : Inlets) (outlets : OutletsRec) (published : List Slot)
    → IsRunner plan n clock horizon seat pins inlets outlets published → after ≡ seat → IsRunner plan n clock horizon after pins inlets outlets published
with_seat plan n clock horizon seat after pins inlets outlets published is same = subst (λ (s : Seat). IsRunner plan n clock horizon s pins inlets outlets published) (sym same) is

late_true : (x y z : Bool) → x || (y || (true || z)) ≡ true
late_true true y z = refl
late_true false true z = refl
late_true false false z = refl

-- the slot is busy
pub issue_is_busy : (plan : PlanRec) (n : Position) (clock : Slot) (horizon : HorizonRec) (seat : Seat) (pins : Pins) (inlets : Inlets) (outlets : OutletsRec) (published : List Slot)
    → IsRunner plan n clock horizon seat pins inlets outlets published → some_eligible seat.core.core clock ≡ true → is_busy plan n clock ≡ true
issue_is_busy plan n clock horizon seat pins inlets outlets published is may =
    let rec : NodeRec = node_in (serial plan clock) n in
    let here : some_eligible rec.core clock ≡ true = subst (λ (core : CoreRec). some_eligible core clock ≡ true) is.seat_is.plays.stands.stands.core may in
    let arrives = something_arrives plan n clock in
    let moves = not (still rec) in
    let falls = ports_stir rec.core.clocks clock rec.core.ports in
    ap (λ (b : Bool). arrives || (moves || (b || falls))) here ∙ late_true arrives moves falls

-- ---- What a skip finds

-- a node goes over the slots from its clock on and before another, none of which is busy, and no more could be gone over
pub record GoesTo (plan : PlanRec) (n : Position) (clock : Slot) (horizon : HorizonRec) (to : Slot) : Type 0 where
  pub on : clock ≤ to
  pub quiet : NoneBefore (is_busy plan n) clock to
  pub greatest : may_run horizon to ≡ true → is_busy plan n to ≡ true

module _ (plan : PlanRec) (n : Position) (clock : Slot) (horizon : HorizonRec) (seat : Seat) (pins : Pins) (inlets : Inlets) (outlets : OutletsRec) (published : List Slot)
    (is : IsRunner plan n clock horizon seat pins inlets outlets published) (stop arrival to : Slot)
    (stop_is : stop ≡ clock_after horizon (2 ^ 32 - 1) clock)
    (arrives : (from : Slot) → from ≤ stop → AllWait from inlets.links.ends → IsFirst (some_arrive inlets.links.ends) from stop arrival) (early : arrival ≤ stop) (by_both : FirstBusyByBoth)
    (stirring : (rec : NodeRec) (shown : Slot → PinView) → StandsAt seat.core rec clock → ((slot : Slot) → ShowsAll (shown slot)) → StirsFirst seat.core.fixed rec clock shown arrival to) where
  far : IsHorizon horizon clock stop
  far = subst (IsHorizon horizon clock) (sym stop_is) (is_horizon horizon clock is.small)

  found : IsFirst (some_arrive inlets.links.ends) clock stop arrival
  found = arrives clock far.on (all_wait plan n clock horizon seat pins inlets outlets published is stop far)

  pub goes_to : GoesTo plan n clock horizon to
  goes_to = record {
    on = not_earlier plan n clock horizon seat pins inlets outlets published is stop far arrival found early by_both to stirring;
    quiet = not_busy plan n clock horizon seat pins inlets outlets published is stop far arrival found early by_both to stirring;
    greatest = no_more plan n clock horizon seat pins inlets outlets published is stop far arrival found early by_both to stirring;
  }

  module _ (some : clock < to) where
    below_last : IsBelowAll horizon (to - 1)
    below_last = far.below (to - 1) (omega (arith, some)) (omega (arith, some, not_past plan n clock horizon seat pins inlets outlets published is stop far arrival found early by_both to stirring))

    -- what its pins show in the last of these slots
    module _ (come after : Pins) (takes : TakesLevels (to - 1) pins come) (same : after.levels ≡ come.levels)
        (levels : (k : ℕ) → k < length inlets.wires → get_or come.levels (wire_in inlets.wires k).port 0 ≡ level_by (to - 1) (wire_in inlets.wires k) (get_or pins.levels (wire_in inlets.wires k).port 0)) where
      pub shown_last : shown_by come (to - 1) ≡ shown_in_serial plan n (to - 1)
      shown_last =
          pins-show plan is.plan_is n clock horizon inlets outlets published pins.levels is.links is.wires.come is.wires.came (to - 1) (omega (arith, some)) below_last come.levels levels pins clock is.pins_are come takes refl

      pub came_last : HaveComeBefore plan n to after.levels
      came_last =
          let next : to - 1 + 1 ≡ to = omega (arith, some) in
          subst (λ t. HaveComeBefore plan n t after.levels) next
          (subst (HaveComeBefore plan n (to - 1 + 1)) (sym same)
          (come-before plan is.plan_is n clock horizon inlets outlets published pins.levels is.links is.wires.come is.wires.came (to - 1) (omega (arith, some)) below_last come.levels levels))

    pub goes_on : IdleWhereNotBusy → WaitingStays → (inlets_after : Inlets) → inlets_after.links ≡ inlets.links → inlets_after.wires ≡ map (wire_after (to - 1)) inlets.wires
        → (after : Seat) (pins_after : Pins) (view : PinView) → view ≡ shown_in_serial plan n (to - 1) → view ≡ pins_after.view → SkipsOn clock to view seat after → ArePins plan n to pins_after
        → HaveComeBefore plan n to pins_after.levels → IsRunner plan n to horizon after pins_after inlets_after outlets published
    goes_on idle waiting inlets_after links_same left after pins_after view shows looked skips pins_are came =
        runner_skipped plan n clock horizon seat pins inlets outlets published is stop far arrival found early by_both to stirring idle waiting some inlets_after links_same left after pins_after view shows looked skips pins_are came

-- the pins of the node, looked at in the last of these slots
pub pins_skipped : (plan : PlanRec) (n from to : ℕ) (pins come after : Pins) → ArePins plan n from pins → TakesLevels (to - 1) pins come → after.script ≡ come.script → after.number ≡ come.number → after.wired ≡ come.wired
    → IsShown (to - 1 + 1) after → from < to → ArePins plan n to after
pins_skipped plan n from to pins come after are takes script number wired shown some =
    let there : to - 1 + 1 ≡ to = omega (arith, some) in
    subst (λ t. ArePins plan n t after) there (pins-looked plan n from (to - 1) pins come after are takes script number wired shown)

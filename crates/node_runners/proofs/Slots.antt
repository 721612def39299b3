-- A node that runs ahead goes the way that it goes in the serial machine.
use Rattle.std.proofs.Common.{◌≡◌, ℕ, suc, ◌+◌, ◌-◌, ◌<◌, ◌≤◌, Option, Some, None, List, ◌++◌, length, map, slice_index, slice_index_or, refl, sym, ap, ◌∙◌, subst, arith, inl, inr}
use Rattle.std.proofs.lemmas.Bool.{cases_lt}
use Rattle.std.proofs.lemmas.Option.{none-some, same_Some, get_or_from_slice_get}
use Rattle.std.proofs.lemmas.List.{length-map}
use Rattle.xs_base.specs.Numbers.{Slot, Word, Position, LinkNumber, EndNumber}
use Rattle.xs_base.specs.Batch.{BatchRec}
use Rattle.xs_base.specs.declared.entry.Entry.{Entry}
use Rattle.xs_model.specs.declared.event.Event.{Event}
use Rattle.xs_model.specs.declared.outside.Arrivals.{Arrivals}
use Rattle.xs_model.specs.declared.outside.PinView.{PinView}
use Rattle.xs_model.specs.Record.{CoreRec, NodeRec}
use Rattle.xs_model.specs.Outside.{Emitted}
use Rattle.sys_plan.specs.Plan.{PlanRec, Arc, IsPlan, incoming, outgoing, delay_of}
use Rattle.sys_plan.proofs.Routes.{incoming-delay, link-leaves, link-arc, directed}
use Rattle.step_model.specs.Step.{Stepped}
use Rattle.serial_model.specs.Serial.{serial, history, arriving, arriving_by, arrivals_of, arrivals_at, step_by, sent_by, driven_level, level_entries, carried_by}
use Rattle.locality_laws.specs.Locality.{node_in, events_in, comes_in_serial, shown_in_serial, IsStep}
use Rattle.locality_laws.proofs.Links.{histories_grow, seen_arrives}
use Rattle.locality_laws.proofs.Ends.{gives_leaving}
use Rattle.locality_laws.proofs.Nodes.{step_needs_coming, outgoing_leaves}
use Rattle.ahead_limits.specs.declared.horizon.Seen.{Seen}
use Rattle.ahead_limits.specs.Horizon.{HorizonRec, Sees, horizon_at, IsBelowAll}
use Rattle.core_step.specs.PinLevels.{from_outside}
use Rattle.node_seats.specs.declared.pins.Pins.{Pins}
use Rattle.node_seats.specs.declared.seat.Seat.{Seat}
use Rattle.node_seats.specs.Seats.{Plays, SameSeat, StepsOn}
use Rattle.node_seats.specs.Shown.{ArePins}
use Rattle.node_seats.proofs.Seats.{plays-next, given-is, plays-same, ready-same, noted-same}
use Rattle.node_runners.specs.declared.inlets.Inlets.{Inlets}
use Rattle.node_runners.specs.declared.wire_inlets.WireInlet.{WireInlet}
use Rattle.node_runners.specs.Queue.{InletRec, AreWaiting, AllWait, after_slot, arriving_after, arrivals_by}
use Rattle.node_runners.specs.Wires.{wire_in, wire_after}
use Rattle.node_runners.specs.Ends.{inlet_by}
use Rattle.node_runners.specs.Sent.{WireOutRec, OutletsRec, SameOutlets, PutsOn, TellsWire, wire_out, batch_by, driven_by}
use Rattle.node_runners.specs.Joins.{ComesTo, LeavesFrom}
use Rattle.node_runners.specs.Inside.{Hears, Tells, HasLinks, HaveComeBefore, HasWires, Sits, IsRunner}
use Rattle.node_runners.proofs.Queue.{history-waits, history-left}
use Rattle.node_runners.proofs.Gots.{got}
use Rattle.node_runners.proofs.Ends.{by-link, after-link, after-wire, wire-after, sent-link, sent-wire, sent-wire-at}
use Rattle.node_runners.proofs.Driven.{wire-carries}

-- ---- What comes

-- the clock is not past the horizon of an arc that comes
hears-ahead : (plan : PlanRec) (clock : Slot) (l : Option LinkNumber) (s : Option Seen) (i : InletRec) → Hears plan clock l s i → (t : Seen) → s ≡ Some t → clock ≤ horizon_at t
hears-ahead plan clock None s i h t same = absurd (none-some t (sym h.0 ∙ same))
hears-ahead plan clock (Some link) None i h t same = absurd h
hears-ahead plan clock (Some link) (Some s) i h t same = let is_t : s ≡ t = cc in omega (arith, h.ahead, ap horizon_at is_t)

pub links-ahead : (plan : PlanRec) (n : Position) (clock : Slot) (horizon : HorizonRec) (inlets : Inlets) (outlets : OutletsRec) (published : List Slot)
    → HasLinks plan n clock horizon inlets outlets published → (end : EndNumber) (s : Seen) → Sees horizon end s → clock ≤ horizon_at s
links-ahead plan n clock horizon inlets outlets published is end s sees =
    hears-ahead plan clock (incoming plan n end) (slice_index_or horizon.ends end None) (inlet_by inlets end) (is.hears end) s (get_or_from_slice_get horizon.ends end (Some s) None sees)

module _ (plan : PlanRec) (plan_is : IsPlan plan) (n : Position) (clock : Slot) where
  -- in this slot or a later one that is before the horizon, by an arc
  by-arc : (slot : Slot) → clock ≤ slot → (end : EndNumber) (l : Option LinkNumber) (s : Option Seen) (i : InletRec) → incoming plan n end ≡ l → Hears plan clock l s i
      → ((t : Seen) → s ≡ Some t → slot < horizon_at t)
      → arriving slot i.delay i.queue ≡ arriving_by plan (serial plan slot).histories slot l
  by-arc slot on end None s i at h below = ap (λ (x : InletRec). arriving slot x.delay x.queue) h.1
  by-arc slot on end (Some link) None i at h below = absurd h
  by-arc slot on end (Some link) (Some s) i at h below =
      (λ k. arriving slot (h.inlet_delay k) (h.queue k))
      ∙ seen_arrives plan link (clock - delay_of plan link) s.seen slot (incoming-delay plan plan_is n end link at) (omega (arith, on)) (omega (arith, below s refl, h.delay))

  waits-at : (end : EndNumber) → end < 8 → (l : Option LinkNumber) (s : Option Seen) (i : InletRec) → incoming plan n end ≡ l → Hears plan clock l s i → AreWaiting clock i.delay i.queue
  waits-at end below None s i at h = subst (λ (x : InletRec). AreWaiting clock x.delay x.queue) (sym h.1) (record { in_order = tt; due = tt; no_level = tt })
  waits-at end below (Some link) None i at h = absurd h
  waits-at end below (Some link) (Some s) i at h =
      subst (λ (es : List Entry). AreWaiting clock i.delay es) (sym h.queue)
      (subst (λ d. AreWaiting clock d (history plan link (clock - delay_of plan link) s.seen)) (sym h.inlet_delay) (history-waits plan n end link clock s.seen below at))

  -- after this slot or a later one, what has arrived has left the queue
  pub hears-after : (slot : Slot) → clock ≤ slot → (l : Option LinkNumber) (s : Option Seen) (i : InletRec) → Hears plan clock l s i → ((t : Seen) → s ≡ Some t → slot < horizon_at t)
      → Hears plan (slot + 1) l s (after_slot slot i)
  hears-after slot on None s i h below = (h.0, ap (after_slot slot) h.1)
  hears-after slot on (Some link) None i h below = absurd h
  hears-after slot on (Some link) (Some s) i h below = record {
    delay = h.delay;
    inlet_delay = h.inlet_delay;
    queue = (λ k. arriving_after slot (h.inlet_delay k) (h.queue k)) ∙ history-left plan link clock slot s.seen on;
    ahead = omega (arith, below s refl);
  }

  module _ (horizon : HorizonRec) (inlets : Inlets) (outlets : OutletsRec) (published : List Slot) (is : HasLinks plan n clock horizon inlets outlets published) where
    abbrev seen_by : EndNumber → Option Seen
    seen_by end = slice_index_or horizon.ends end None

    pub waits : AllWait clock inlets.links.ends
    waits end there =
        let below : end < 8 = omega (arith, there, is.few_inlets) in
        subst (λ (i : InletRec). AreWaiting clock i.delay i.queue) (by-link inlets end below) (waits-at end below (incoming plan n end) (seen_by end) (inlet_by inlets end) refl (is.hears end))

    module _ (slot : Slot) (on : clock ≤ slot) (below : IsBelowAll horizon slot) where
      below-at : (end : EndNumber) (s : Seen) → seen_by end ≡ Some s → slot < horizon_at s
      below-at end s h = below.1 end s (got horizon.ends end s h)

      one-end : (end : EndNumber) → arriving slot (inlet_by inlets end).delay (inlet_by inlets end).queue ≡ arriving_by plan (serial plan slot).histories slot (incoming plan n end)
      one-end end = by-arc slot on end (incoming plan n end) (seen_by end) (inlet_by inlets end) refl (is.hears end) (below-at end)

      -- what arrives is what arrives in the serial machine
      pub arrivals-are : arrivals_by slot inlets.links.ends ≡ arrivals_at plan (serial plan slot).histories slot n
      arrivals-are = λ k. arrivals_of (λ end. one-end end k)

      pub hears-later : (end : EndNumber) → Hears plan (slot + 1) (incoming plan n end) (seen_by end) (after_slot slot (inlet_by inlets end))
      hears-later end = hears-after slot on (incoming plan n end) (seen_by end) (inlet_by inlets end) (is.hears end) (below-at end)

-- ---- The node

module _ (plan : PlanRec) (n : Position) (clock : Slot) (seat : Seat) (sits : Sits plan n clock seat) where
  abbrev here_arrive : Arrivals
  here_arrive = arrivals_at plan (serial plan clock).histories clock n

  abbrev here_shown : PinView
  here_shown = shown_in_serial plan n clock

  abbrev rec : NodeRec
  rec = node_in (serial plan clock) n

  abbrev events : List Event
  events = events_in (serial plan clock) n

  -- the node's step in the serial machine
  abbrev pub own : Stepped
  own = step_by plan n sits.node clock (comes_in_serial plan n clock) rec

  pub is-step : IsStep plan n clock own
  is-step = step_needs_coming plan n sits.node clock (comes_in_serial plan n clock) sits.here refl

  next : suc clock ≡ clock + 1
  next = omega arith

  module _ (arrivals : Arrivals) (view : PinView) (after : Seat) (steps : StepsOn clock arrivals view seat after) (are : arrivals ≡ here_arrive) (shows : view ≡ here_shown) where
    steps_own : StepsOn clock here_arrive here_shown seat after
    steps_own = subst (λ (a : Arrivals). StepsOn clock a here_shown seat after) are (subst (λ (v : PinView). StepsOn clock arrivals v seat after) shows steps)

    pub gives : after.given ≡ own.emitted
    gives = given-is plan clock n sits.node seat rec events sits.plays here_arrive here_shown after steps_own

    plays_own : Plays plan (clock + 1) n sits.node after own.rec (events ++ own.emitted.events)
    plays_own = plays-next plan clock n sits.node seat rec events sits.plays here_arrive here_shown after steps_own

    pub sits-next : Sits plan n (clock + 1) after
    sits-next = record {
      node = sits.node;
      here = sits.here;
      ready = steps.next;
      plays =
          subst (λ m. Plays plan (clock + 1) n sits.node after (node_in (serial plan m) n) (events_in (serial plan m) n)) next
          (subst (λ (es : List Event). Plays plan (clock + 1) n sits.node after (node_in (serial plan (suc clock)) n) es) (sym is-step.events)
          (subst (λ (r : NodeRec). Plays plan (clock + 1) n sits.node after r (events ++ own.emitted.events)) (sym is-step.rec) plays_own));
    }

    -- what its ports then drive
    pub drives-next : (port : ℕ) → driven_by after.core.core port ≡ driven_level (node_in (serial plan (suc clock)) n) port
    drives-next port = ap (λ (c : CoreRec). driven_by c port) plays_own.stands.stands.core ∙ ap (λ (r : NodeRec). driven_level r port) (sym is-step.rec)

  -- what it sends is what its arcs carry
  module _ (plan_is : IsPlan plan) (after : Seat) (gave : after.given ≡ own.emitted) (drives : (port : ℕ) → driven_by after.core.core port ≡ driven_level (node_in (serial plan (suc clock)) n) port)
      (outlets later : OutletsRec) (puts : PutsOn clock after outlets later) (published : List Slot) where
    -- by an end it sends this
    carries-on : (end : EndNumber) (link : LinkNumber) (new : List Entry) → slice_index published end ≤ clock → Tells plan clock link end outlets published
        → (batch_by later end).entries ≡ (batch_by outlets end).entries ++ new → new ≡ history plan link clock (suc clock) → Tells plan (clock + 1) link end later published
    carries-on end link new behind t more carried =
        let p = slice_index published end in
        record {
          there = record { link = λ below. omega (arith, t.there.link below, puts.link_count); wire = λ on. omega (arith, t.there.wire on, puts.wire_count) };
          batch =
              more
              ∙ (λ k. t.batch k ++ carried k)
              ∙ histories_grow plan link p clock (suc clock) behind (omega arith)
              ∙ ap (λ m. history plan link p m) next;
        }

    -- of a link, its tokens and credits
    link-carries : (end : EndNumber) (link : LinkNumber) → end < 8 → outgoing plan n end ≡ Some link → sent_by clock after.given end ≡ history plan link clock (suc clock)
    link-carries end link below at =
        let l = outgoing_leaves plan n end link at in
        let of = link-leaves plan n end below link at in
        let same : l.arc ≡ of.0 = same_Some l.arc of.0 (sym l.here ∙ link-arc plan plan_is link of.0 of.1) in
        let none : l.arc.joins ≡ None = ap (λ (d : Arc). d.joins) same ∙ (directed plan plan_is link of.0 of.1).joins in
        ap (λ (g : Emitted). sent_by clock g end) gave
        ∙ sym (is-step.carried end link l ∙ (λ i. carried_by clock rec own.rec own.emitted end (none i)))

    pub tells-link : (end : EndNumber) (link : LinkNumber) → end < 8 → outgoing plan n end ≡ Some link → slice_index published end ≤ clock → Tells plan clock link end outlets published
        → Tells plan (clock + 1) link end later published
    tells-link end link below at behind t =
        carries-on end link (sent_by clock after.given end) behind t
        (ap (λ (b : BatchRec). b.entries) (sent-link later end below) ∙ puts.links end (t.there.link below)
        ∙ ap (λ (b : BatchRec). b.entries ++ sent_by clock after.given end) (sym (sent-link outlets end below)))
        (link-carries end link below at)

    -- of a wire, the level of its port
    module _ (k : ℕ) (within : k < length outlets.wires) (leaves : LeavesFrom plan n (8 + k) (wire_out outlets.wires k).port)
        (told : (wire_out outlets.wires k).sent ≡ driven_level rec (wire_out outlets.wires k).port) where
      abbrev before : WireOutRec
      before = wire_out outlets.wires k

      abbrev now : WireOutRec
      now = wire_out later.wires k

      t : TellsWire clock after.core.core before now
      t = puts.wires k within

      pub told-next : now.sent ≡ driven_level (node_in (serial plan (clock + 1)) n) now.port
      told-next = t.sent ∙ drives before.port ∙ (λ i. driven_level (node_in (serial plan (next i)) n) before.port) ∙ ap (driven_level (node_in (serial plan (clock + 1)) n)) (sym t.port)

      wire-is : level_entries clock before.sent (driven_by after.core.core before.port) ≡ history plan leaves.wire clock (suc clock)
      wire-is =
          (λ i. level_entries clock (told i) (drives before.port i))
          ∙ sym (wire-carries plan n sits.node sits.here (8 + k) leaves.wire leaves.leaves leaves.joined leaves.joins clock
          ∙ (λ i. level_entries clock (driven_level rec (leaves.from i)) (driven_level (node_in (serial plan (suc clock)) n) (leaves.from i))))

      pub tells-wire-at : slice_index published (8 + k) ≤ clock → Tells plan clock leaves.wire (8 + k) outlets published → Tells plan (clock + 1) leaves.wire (8 + k) later published
      tells-wire-at behind tell =
          carries-on (8 + k) leaves.wire (level_entries clock before.sent (driven_by after.core.core before.port)) behind tell
          (ap (λ (b : BatchRec). b.entries) (sent-wire-at later k) ∙ t.entries
          ∙ ap (λ (b : BatchRec). b.entries ++ level_entries clock before.sent (driven_by after.core.core before.port)) (sym (sent-wire-at outlets k)))
          wire-is

    -- of either
    module _ (leave : (k : ℕ) → k < length outlets.wires → LeavesFrom plan n (8 + k) (wire_out outlets.wires k).port)
        (told : (k : ℕ) → k < length outlets.wires → (wire_out outlets.wires k).sent ≡ driven_level rec (wire_out outlets.wires k).port) where
      tells-wire : (end : EndNumber) (link : LinkNumber) → 8 ≤ end → outgoing plan n end ≡ Some link → slice_index published end ≤ clock → Tells plan clock link end outlets published
          → Tells plan (clock + 1) link end later published
      tells-wire end link on at behind tell =
          let k = end - 8 in
          let same : 8 + k ≡ end = omega (arith, on) in
          let within : k < length outlets.wires = omega (arith, on, tell.there.wire on) in
          let l = leave k within in
          let wire : l.wire ≡ link = same_Some l.wire link (sym (gives_leaving plan plan_is n (8 + k) l.wire l.leaves) ∙ ap (outgoing plan n) same ∙ at) in
          subst (λ e. Tells plan (clock + 1) link e later published) same
          (subst (λ w. Tells plan (clock + 1) w (8 + k) later published) wire
          (tells-wire-at k within l (told k within) (subst (λ e. slice_index published e ≤ clock) (sym same) behind)
          (subst (λ w. Tells plan clock w (8 + k) outlets published) (sym wire) (subst (λ e. Tells plan clock link e outlets published) (sym same) tell))))

      pub tells-next : (end : EndNumber) (link : LinkNumber) → outgoing plan n end ≡ Some link → slice_index published end ≤ clock → Tells plan clock link end outlets published
          → Tells plan (clock + 1) link end later published
      tells-next end link at behind tell = elim (cases_lt end 8) [
        | inl below ↦ tells-link end link below at behind tell
        | inr on ↦ tells-wire end link on at behind tell
      ]

-- ---- Room changes nothing

pub sits-same : (plan : PlanRec) (n : Position) (clock : Slot) (seat after : Seat) → Sits plan n clock seat → SameSeat seat after → Sits plan n clock after
sits-same plan n clock seat after s same = record {
  node = s.node;
  here = s.here;
  ready = ready-same clock seat after s.ready same;
  plays = plays-same plan clock n s.node seat after (node_in (serial plan clock) n) (events_in (serial plan clock) n) s.plays same;
}

module _ (outlets after : OutletsRec) (same : SameOutlets outlets after) where
  pub batch-same : (end : EndNumber) → (batch_by after end).entries ≡ (batch_by outlets end).entries
  batch-same end = elim (cases_lt end 8) [
    | inl below ↦
        ap (λ (b : BatchRec). b.entries) (sent-link after end below) ∙ same.links end
        ∙ ap (λ (b : BatchRec). b.entries) (sym (sent-link outlets end below))
    | inr on ↦
        ap (λ (b : BatchRec). b.entries) (sent-wire after end on) ∙ (same.wires (end - 8)).entries
        ∙ ap (λ (b : BatchRec). b.entries) (sym (sent-wire outlets end on))
  ]

  pub links-same : (plan : PlanRec) (n : Position) (clock : Slot) (horizon : HorizonRec) (inlets : Inlets) (published : List Slot)
      → HasLinks plan n clock horizon inlets outlets published → HasLinks plan n clock horizon inlets after published
  links-same plan n clock horizon inlets published is = record {
    all_ends = is.all_ends;
    few_inlets = is.few_inlets;
    few_batches = omega (arith, is.few_batches, same.link_count);
    all_published = is.all_published;
    hears = is.hears;
    reached = is.reached;
    tells = λ end link at.
        let t = is.tells end link at in
        record {
          there = record { link = λ below. omega (arith, t.there.link below, same.link_count); wire = λ on. omega (arith, t.there.wire on, same.wire_count) };
          batch = batch-same end ∙ t.batch;
        };
    behind = is.behind;
  }

  pub wires-same : (plan : PlanRec) (n : Position) (clock : Slot) (levels : List Word) (wires : List WireInlet)
      → HasWires plan n clock levels wires outlets.wires → HasWires plan n clock levels wires after.wires
  wires-same plan n clock levels wires is = record {
    come = is.come;
    came = is.came;
    leave = λ k within. subst (LeavesFrom plan n (8 + k)) (sym (same.wires k).port) (is.leave k (omega (arith, within, same.wire_count)));
    told = λ k within.
        (same.wires k).sent ∙ is.told k (omega (arith, within, same.wire_count)) ∙ ap (driven_level (node_in (serial plan clock) n)) (sym (same.wires k).port);
  }

pub runner-same : (plan : PlanRec) (n : Position) (clock : Slot) (horizon : HorizonRec) (seat seat_after : Seat) (pins : Pins) (inlets : Inlets) (outlets after : OutletsRec) (published : List Slot)
    → IsRunner plan n clock horizon seat pins inlets outlets published → SameSeat seat seat_after → SameOutlets outlets after
    → IsRunner plan n clock horizon seat_after pins inlets after published
runner-same plan n clock horizon seat seat_after pins inlets outlets after published is same_seat same = record {
  plan_is = is.plan_is;
  within = is.within;
  small = is.small;
  seat_is = sits-same plan n clock seat seat_after is.seat_is same_seat;
  pins_are = is.pins_are;
  noted = noted-same clock pins seat seat_after is.noted same_seat;
  links = links-same outlets after same plan n clock horizon inlets published is.links;
  wires = wires-same outlets after same plan n clock pins.levels inlets.wires is.wires;
}

-- ---- One slot

-- what has arrived by a slot has left the queues
pub record HasArrived (slot : Slot) (before after : Inlets) : Type 0 where
  pub links : after.links.ends ≡ map (after_slot slot) before.links.ends
  pub wires : after.wires ≡ map (wire_after slot) before.wires

module _ (slot : Slot) (before after : Inlets) (left : HasArrived slot before after) where
  pub inlets-after : (end : EndNumber) → inlet_by after end ≡ after_slot slot (inlet_by before end)
  inlets-after end = elim (cases_lt end 8) [
    | inl below ↦ after-link slot before after left.links end below
    | inr on ↦ after-wire slot before after left.wires end on
  ]

  pub link-count : length after.links.ends ≡ length before.links.ends
  link-count = ap length left.links ∙ length-map before.links.ends (after_slot slot)

  pub wire-count : length after.wires ≡ length before.wires
  wire-count = ap length left.wires ∙ length-map before.wires (wire_after slot)

  pub same-ports : (k : ℕ) → (wire_in after.wires k).port ≡ (wire_in before.wires k).port
  same-ports k = ap (λ (ws : List WireInlet). (wire_in ws k).port) left.wires ∙ ap (λ (w : WireInlet). w.port) (wire-after slot before.wires k)

pub runner-next : (plan : PlanRec) (n : Position) (clock : Slot) (horizon : HorizonRec) (seat seat_after : Seat) (pins pins_after : Pins) (inlets inlets_after : Inlets) (outlets after : OutletsRec) (published : List Slot)
    (arrivals : Arrivals) (view : PinView)
    → IsRunner plan n clock horizon seat pins inlets outlets published → IsBelowAll horizon clock → arrivals ≡ arrivals_by clock inlets.links.ends → HasArrived clock inlets inlets_after
    → view ≡ shown_in_serial plan n clock → ArePins plan n (clock + 1) pins_after → view ≡ pins_after.view → HaveComeBefore plan n (clock + 1) pins_after.levels
    → StepsOn clock arrivals view seat seat_after → PutsOn clock seat_after outlets after
    → IsRunner plan n (clock + 1) horizon seat_after pins_after inlets_after after published
runner-next plan n clock horizon seat seat_after pins pins_after inlets inlets_after outlets after published arrivals view is below arrive left shows pins_are looked came steps puts =
    let are = arrive ∙ arrivals-are plan is.plan_is n clock horizon inlets outlets published is.links clock (omega arith) below in
    let given = gives plan n clock seat is.seat_is arrivals view seat_after steps are shows in
    let drives = drives-next plan n clock seat is.seat_is arrivals view seat_after steps are shows in
    record {
      plan_is = is.plan_is;
      within = omega (arith, below.0);
      small = is.small;
      seat_is = sits-next plan n clock seat is.seat_is arrivals view seat_after steps are shows;
      pins_are = pins_are;
      noted = λ _. steps.noted ∙ ap from_outside looked;
      links = record {
        all_ends = is.links.all_ends;
        few_inlets = omega (arith, link-count clock inlets inlets_after left, is.links.few_inlets);
        few_batches = omega (arith, puts.link_count, is.links.few_batches);
        all_published = is.links.all_published;
        hears = λ end. subst (Hears plan (clock + 1) (incoming plan n end) (slice_index_or horizon.ends end None)) (sym (inlets-after clock inlets inlets_after left end))
            (hears-later plan is.plan_is n clock horizon inlets outlets published is.links clock (omega arith) below end);
        reached = λ end link at.
            let r = is.links.reached end link at in
            record { link = λ l. omega (arith, r.link l, link-count clock inlets inlets_after left); wire = λ l. omega (arith, r.wire l, wire-count clock inlets inlets_after left) };
        tells = λ end link at.
            tells-next plan n clock seat is.seat_is is.plan_is seat_after given drives outlets after puts published is.wires.leave is.wires.told end link at (is.links.behind end) (is.links.tells end link at);
        behind = λ end. let b = is.links.behind end in omega (arith, b);
      };
      wires = record {
        come = λ k within. subst (ComesTo plan n (8 + k)) (sym (same-ports clock inlets inlets_after left k)) (is.wires.come k (omega (arith, within, wire-count clock inlets inlets_after left)));
        came = came;
        leave = λ k within.
            let there : k < length outlets.wires = omega (arith, within, puts.wire_count) in
            subst (LeavesFrom plan n (8 + k)) (sym (puts.wires k there).port) (is.wires.leave k there);
        told = λ k within.
            let there : k < length outlets.wires = omega (arith, within, puts.wire_count) in
            told-next plan n clock seat is.seat_is is.plan_is seat_after given drives outlets after puts published k there (is.wires.leave k there) (is.wires.told k there);
      };
    }

-- A directed link from slot to slot.
use Rattle.std.proofs.Common.{◌≡◌, ℕ, ◌+◌, ◌<◌, ◌≤◌, Bool, Option, List, ◌++◌, sym, ◌∙◌, subst, arith}
use Rattle.std.specs.Prelude.{slice_get}
use Rattle.std.specs.List.{AllByRecursion}
use Rattle.xs_base.specs.declared.token.Token.{Token}
use Rattle.xs_base.specs.declared.entry.Entry.{Entry}
use Rattle.serial_model.specs.Serial.{arriving, token_entries, credit_entries}
use Rattle.crossings.specs.declared.crossing.Crossing.{Crossing}
use Rattle.crossings.specs.Crossings.{crossing_of, AreInSendingOrder, HaveNoLevel, IsDueFrom, due_of, seen_of, entry_count}
use Rattle.crossings.proofs.Arriving.{all-map, all-append, seen-at, next-at, due-append, order-append, sent-order, sent-at, sent-no-level, no-level-append, count-most}
use Rattle.run_plan.specs.declared.track.Track.{Track}
use Rattle.run_plan.specs.Tracks.{IsTrack, GoesOn}

-- a directed link that goes on to the next slot
module _ (slot : ℕ) (track : Track) (is : IsTrack slot track) (token : Option Token) (credit : Bool) where
  abbrev sent : List Entry
  sent = token_entries slot token ++ credit_entries slot credit

  abbrev entries : List Entry
  entries = track.history.entries ++ sent

  at_sent : AllByRecursion (λ (e : Entry). e.slot ≡ slot) sent
  at_sent = sent-at slot token credit

  abbrev first : ℕ
  first = track.first + entry_count track.arrived

  due_next : IsDueFrom (slot + 1) track.delay first track.history.entries
  due_next =
      let e = is.arrived ∙ seen-at slot track.delay track.first track.history.entries is.due is.in_order is.no_level in
      subst (λ (c : Crossing). IsDueFrom (slot + 1) track.delay (track.first + entry_count c) track.history.entries) (sym e)
      (next-at slot track.delay track.first track.history.entries is.due is.in_order is.no_level)

  due_all : IsDueFrom (slot + 1) track.delay first entries
  due_all =
      due-append (slot + 1) track.delay first track.history.entries sent due_next
      (all-map (λ (e : Entry). e.slot ≡ slot) (λ (e : Entry). slot + 1 ≤ e.slot + track.delay) (λ e same. omega (arith, same, is.delayed)) sent at_sent)

  order_all : AreInSendingOrder entries
  order_all = order-append slot track.history.entries sent is.in_order is.before at_sent (sent-order slot token credit)

  no_level_all : HaveNoLevel entries
  no_level_all = no-level-append track.history.entries sent is.no_level (sent-no-level slot token credit)

  before_all : AllByRecursion (λ (e : Entry). e.slot < slot + 1) entries
  before_all =
      all-append (λ (e : Entry). e.slot < slot + 1) track.history.entries sent
      (all-map (λ (e : Entry). e.slot < slot) (λ (e : Entry). e.slot < slot + 1) (λ e l. omega (arith, l)) track.history.entries is.before)
      (all-map (λ (e : Entry). e.slot ≡ slot) (λ (e : Entry). e.slot < slot + 1) (λ e same. omega (arith, same)) sent at_sent)

  pub goes-on : (after : Track) → after.from ≡ track.from → after.from_end ≡ track.from_end → after.to ≡ track.to → after.delay ≡ track.delay → after.history.entries ≡ entries → after.first ≡ first
      → after.arrived ≡ seen_of (due_of (slot + 1) track.delay (slice_get entries first)) (due_of (slot + 1) track.delay (slice_get entries (first + 1)))
      → GoesOn slot sent track after
  goes-on after from from_end to delay is_entries is_first is_arrived =
      let seen : after.arrived ≡ crossing_of (arriving (slot + 1) track.delay entries) = is_arrived ∙ sym (seen-at (slot + 1) track.delay first entries due_all order_all no_level_all) in
      record {
        from = from;
        from_end = from_end;
        to = to;
        delay = delay;
        entries = is_entries;
        next = record {
          from_end = omega (arith, from_end, is.from_end);
          delayed = omega (arith, delay, is.delayed);
          in_order = subst AreInSendingOrder (sym is_entries) order_all;
          no_level = subst HaveNoLevel (sym is_entries) no_level_all;
          before = subst (AllByRecursion (λ (e : Entry). e.slot < slot + 1)) (sym is_entries) before_all;
          few = omega (arith, is_first, is.few, count-most track.arrived);
          due =
              subst (λ (d : ℕ). IsDueFrom (slot + 1) d after.first after.history.entries) (sym delay)
              (subst (λ (n : ℕ). IsDueFrom (slot + 1) track.delay n after.history.entries) (sym is_first)
              (subst (IsDueFrom (slot + 1) track.delay first) (sym is_entries) due_all));
          arrived = seen ∙ (λ i. crossing_of (arriving (slot + 1) (sym delay i) (sym is_entries i)));
        };
      }

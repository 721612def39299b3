-- Directed links and wires that begin with what is in flight.
use Rattle.std.proofs.Common.{◌≡◌, ℕ, ◌+◌, ◌<◌, ◌≤◌, ◌^◌, true, false, eqb, cond, Option, Some, None, List, [], ◌∷◌, ◌++◌, take, refl, sym, ap, ◌∙◌, subst, arith, inl, inr}
use mathlib.Core.Logic.{◌⊎◌}
use Rattle.std.specs.Prelude.{slice_get}
use Rattle.std.specs.List.{AllByRecursion}
use Rattle.std.proofs.lemmas.Bool.{cases_Bool, eqb-true, eqb-false}
use Rattle.std.proofs.lemmas.List.{take_more}
use Rattle.xs_base.specs.Ids.{port_width}
use Rattle.xs_base.specs.Batch.{BatchRec}
use Rattle.xs_base.specs.declared.entry.Entry.{Entry}
use Rattle.xs_base.specs.declared.entry.What.{What}
use Rattle.xs_base.specs.declared.entry.What.TheVariants as what
use Rattle.sys_plan.specs.declared.WirePlan.{WirePlan}
use Rattle.serial_model.specs.Serial.{level_after, level_or, is_credit, IsNoLevel}
use Rattle.crossings.specs.declared.crossing.Crossing.{Crossing}
use Rattle.crossings.specs.Crossings.{AreInSendingOrder, HaveNoLevel, MayFollow, Later, Beside, IsDueFrom, due_of, seen_of}
use Rattle.crossings.proofs.Arriving.{all-map, seen-at}
use Rattle.snap_parts.specs.InFlight.{IsOfLink, IsInFlight, ComesBefore, StandSo, is_token, is_credit as is_a_credit, AreLinkEntries, AreWireEntries}
use Rattle.snap_parts.specs.Parts.{LogRec}
use Rattle.run_plan.specs.declared.track.Track.{Track}
use Rattle.run_plan.specs.declared.wire.Wire.{Wire}
use Rattle.run_plan.specs.Wires.{IsWire, with_coming}
use Rattle.run_plan.specs.Begins.{TrackBegins, WireBegins}
use Rattle.run_plan.proofs.Waiting.{none_to_come, first_to_come}
use Rattle.run_plan.proofs.Wires.{with-come, IsHistory, level-is, level-more, level-at, level-fits, get-within, get-is, due-next, due-at, sending}

-- ---- A directed link

-- what is in flight before a slot was sent before it, and comes from it on
in-flight-before : (slot delay : ℕ) (es : List Entry) → AllByRecursion (IsInFlight slot delay) es → AllByRecursion (λ (e : Entry). e.slot < slot) es
in-flight-before slot delay = all-map (IsInFlight slot delay) (λ (e : Entry). e.slot < slot) (λ e f. f.before)

in-flight-due : (slot delay : ℕ) (es : List Entry) → AllByRecursion (IsInFlight slot delay) es → IsDueFrom slot delay 0 es
in-flight-due slot delay = all-map (IsInFlight slot delay) (λ (e : Entry). slot ≤ e.slot + delay) (λ e f. omega (arith, f.sent))

-- and stands in the order of crate crossings
no-credit : (w : What) → is_token w ≡ true → is_credit w ≡ false
no-credit (what.Token t) is = refl
no-credit what.Credit is = absurd cc
no-credit (what.Level n) is = refl

a-credit : (w : What) → is_a_credit w ≡ true → is_credit w ≡ true
a-credit (what.Token t) is = absurd cc
a-credit what.Credit is = refl
a-credit (what.Level n) is = absurd cc

may-follow : (e f : Entry) → ComesBefore e f → MayFollow e f
may-follow e f (inl later) = Later later
may-follow e f (inr beside) = Beside beside.0 (no-credit e.what beside.1) (a-credit f.what beside.2)

in-sending-order : (es : List Entry) → StandSo ComesBefore es → AreInSendingOrder es
in-sending-order [] order = tt
in-sending-order (e ∷ es) order = (all-map (ComesBefore e) (MayFollow e) (may-follow e) es order.0, in-sending-order es order.1)

no-level : (w : What) → IsOfLink w → IsNoLevel w
no-level (what.Token t) is = tt
no-level what.Credit is = tt
no-level (what.Level n) is = absurd is

have-no-level : (es : List Entry) → AllByRecursion (λ (e : Entry). IsOfLink e.what) es → HaveNoLevel es
have-no-level = all-map (λ (e : Entry). IsOfLink e.what) (λ (e : Entry). IsNoLevel e.what) (λ e. no-level e.what)

abbrev pub track_with : ℕ → ℕ → ℕ → ℕ → BatchRec → Crossing → Track
track_with from from_end to delay history arrived =
    record { from = from; from_end = from_end; to = to; delay = delay; history = history; first = 0; arrived = arrived }

pub track-begins : (slot from from_end to delay : ℕ) (entries : List Entry) (history : BatchRec) (track : Track) → from_end < 8 → 1 ≤ delay → AreLinkEntries slot delay entries → history.entries ≡ entries
    → track ≡ track_with from from_end to delay history (seen_of (due_of slot delay (slice_get history.entries 0)) (due_of slot delay (slice_get history.entries (0 + 1))))
    → TrackBegins slot from from_end to delay entries track
track-begins slot from from_end to delay entries history track end delayed log same is =
    let due : IsDueFrom slot delay 0 history.entries = subst (IsDueFrom slot delay 0) (sym same) (in-flight-due slot delay entries log.in_flight) in
    let order = subst AreInSendingOrder (sym same) (in-sending-order entries log.order) in
    let kinds = subst HaveNoLevel (sym same) (have-no-level entries log.kinds) in
    subst (TrackBegins slot from from_end to delay entries) (sym is) (record {
      from = refl;
      from_end = refl;
      to = refl;
      delay = refl;
      entries = same;
      here = record {
        from_end = end;
        delayed = delayed;
        in_order = order;
        no_level = kinds;
        before = subst (AllByRecursion (λ (e : Entry). e.slot < slot)) (sym same) (in-flight-before slot delay entries log.in_flight);
        few = omega arith;
        due = due;
        arrived = sym (seen-at slot delay 0 history.entries due order kinds);
      };
    })

-- ---- A wire

module _ (slot : ℕ) (w : Wire) (from_port : w.from_port < 29) (to_port : w.to_port < 29) (widths : port_width w.from_port ≡ port_width w.to_port) (delayed : 1 ≤ w.delay)
    (log : AreWireEntries slot w.delay (port_width w.to_port) w.history.entries) (narrow : w.shown.value < 2 ^ port_width w.to_port) where
  abbrev es : List Entry
  es = w.history.entries

  abbrev before : ℕ
  before = w.shown.value

  -- as it would begin with nothing in flight
  abbrev empty : Wire
  empty = record w { history = record { entries = []; spare = 0 }; first = 0; level = before }

  is-empty : IsWire 0 empty
  is-empty = record {
    from_port = from_port;
    to_port = to_port;
    widths = widths;
    delayed = delayed;
    in_order = tt;
    levels = tt;
    before = tt;
    few = omega arith;
    due = tt;
    level = refl;
    narrow = narrow;
  }

  is-history : IsHistory (port_width w.to_port) slot es
  is-history = record { in_order = log.order; levels = log.kinds; before = in-flight-before slot w.delay es log.in_flight }

  due : IsDueFrom slot w.delay 0 es
  due = in-flight-due slot w.delay es log.in_flight

  nothing-yet : IsDueFrom (slot + 1) w.delay 0 es → IsWire slot (record w { first = 0; level = before })
  nothing-yet later = with-come 0 slot empty is-empty w.history w.sent 0 before is-history (omega arith) later (sym (level-is before slot w.delay 0 es later)) narrow

  comes-first : (e : Entry) → slice_get es 0 ≡ Some e → e.slot + w.delay ≡ slot → IsWire slot (record w { first = 0 + 1; level = level_or e.what before })
  comes-first e here now_due =
      let later : IsDueFrom (slot + 1) w.delay (0 + 1) es = due-next slot w.delay 0 es e due log.order here now_due in
      let more : take (0 + 1) es ≡ take 0 es ++ e ∷ [] = take_more es 0 e (get-within es 0 e here) ∙ ap (λ x. take 0 es ++ x ∷ []) (get-is es 0 e here) in
      let level =
      sym (level-more before (take 0 es) e)
      ∙ ap (level_after before) (sym more)
      ∙ sym (level-is before slot w.delay (0 + 1) es later) in
      let fits = level-fits (port_width w.to_port) e.what before (level-at (port_width w.to_port) 0 es e log.kinds here) in
      with-come 0 slot empty is-empty w.history w.sent (0 + 1) (level_or e.what before) is-history (omega (arith, now_due, delayed)) later level fits

  by-first : (next : Option Entry) → slice_get es 0 ≡ next → IsWire slot (with_coming (due_of slot w.delay next) (record w { first = 0; level = before }))
  by-first None none = nothing-yet (none_to_come slot slot w.delay 0 es (omega arith) due none)
  by-first (Some e) here = by_test (cases_Bool (eqb (e.slot + w.delay) slot))
    where
      by_test : (eqb (e.slot + w.delay) slot ≡ true) ⊎ (eqb (e.slot + w.delay) slot ≡ false) → IsWire slot (with_coming (due_of slot w.delay (Some e)) (record w { first = 0; level = before }))
      by_test (inl now_due) =
          subst (λ b. IsWire slot (with_coming (cond b (Some e.what) None) (record w { first = 0; level = before }))) (sym now_due)
          (comes-first e here (eqb-true (e.slot + w.delay) slot now_due))
      by_test (inr later) =
          subst (λ b. IsWire slot (with_coming (cond b (Some e.what) None) (record w { first = 0; level = before }))) (sym later)
          (nothing-yet (first_to_come slot slot w.delay 0 es e (omega arith) due (sending es log.order) here (not-now later)))
        where
          not-now : eqb (e.slot + w.delay) slot ≡ false → slot < e.slot + w.delay
          not-now apart = omega (arith, due-at slot w.delay 0 es e due here, eqb-false (e.slot + w.delay) slot apart)

  pub wire-begins : IsWire slot (with_coming (due_of slot w.delay (slice_get es 0)) (record w { first = 0; level = before }))
  wire-begins = by-first (slice_get es 0) refl

-- what comes changes only this
pub coming-same : (told : Option What) (w : Wire) (slot driven : ℕ) (plan : WirePlan) (log : LogRec) → w.from ≡ plan.a → w.from_port ≡ plan.a_port → w.to ≡ plan.b → w.to_port ≡ plan.b_port → w.delay ≡ plan.delay
    → w.history.entries ≡ log.entries → w.sent ≡ driven → w.shown.value ≡ log.level → IsWire slot (with_coming told w) → WireBegins slot driven plan log (with_coming told w)
coming-same None w slot driven plan log from from_port to to_port delay entries sent shown is =
    record { from = from; from_port = from_port; to = to; to_port = to_port; delay = delay; entries = entries; sent = sent; shown = shown; here = is }
coming-same (Some what) w slot driven plan log from from_port to to_port delay entries sent shown is =
    record { from = from; from_port = from_port; to = to; to_port = to_port; delay = delay; entries = entries; sent = sent; shown = shown; here = is }

-- The first slot in which something arrives of what waits at the link ends of a node.
use Rattle.std.proofs.Common.{◌≡◌, ℕ, zero, suc, ◌+◌, ◌<◌, ◌≤◌, ◌⊎◌, inl, inr, true, false, eqb, Option, Some, None, List, [], ◌∷◌, length, map, fold, slice_get, refl, sym, ap, ◌∙◌, subst, arith}
use Rattle.std.specs.List.{AllByRecursion}
use Rattle.std.proofs.Math.Nat.{eq-or-lt_of_le}
use Rattle.std.proofs.lemmas.Bool.{cases_lt, ne_eqb, eq-eqb, lt-ltb}
use Rattle.std.proofs.lemmas.Option.{none-some, same_Some}
use Rattle.xs_base.specs.Numbers.{Slot, EndNumber}
use Rattle.xs_base.specs.declared.entry.Entry.{Entry}
use Rattle.serial_model.specs.Serial.{IsNoLevel, arriving, arrivals_of}
use Rattle.locality_laws.proofs.Entries.{all_weaker, filter_none}
use Rattle.locality_laws.proofs.Levels.{kept_all}
use Rattle.crossings.specs.Crossings.{MayFollow, AreInSendingOrder, Later, Beside}
use Rattle.quiet_model.specs.Slots.{IsFirst}
use Rattle.busy_slots.proofs.Brought.{none_brought, one_brought}
use Rattle.node_runners.specs.Queue.{InletRec, no_inlet, inlet_at, no_arrivals, AreWaiting, AllWait, arriving_after, after_slot, arriving_at, arrivals_by, some_arrive, arrival_of, nearer_arrival, AwaitsUntil}

-- ---- The least of the bound and the first arrivals

-- the first entry of the link end at a place arrives in a slot
pub record ArrivesFirst (inlets : List InletRec) (slot : Slot) : Type 0 where
  pub end : EndNumber
  pub there : end < length inlets
  pub entry : Entry
  pub first : slice_get (inlet_at inlets end).queue 0 ≡ Some entry
  pub at : entry.slot + (inlet_at inlets end).delay ≡ slot

pub record IsNearest (bound : Slot) (inlets : List InletRec) (result : Slot) : Type 0 where
  pub within : result ≤ bound
  pub least : AwaitsUntil result inlets
  pub one : (result ≡ bound) ⊎ ArrivesFirst inlets result

pub nearer_within : (bound delay : ℕ) (o : Option Entry) → arrival_of bound delay o ≤ bound
nearer_within bound delay None = omega arith
nearer_within bound delay (Some e) = omega arith

pub nearer_least : (bound delay : ℕ) (o : Option Entry) (e : Entry) → o ≡ Some e → arrival_of bound delay o ≤ e.slot + delay
nearer_least bound delay o e is = subst (λ (x : Option Entry). arrival_of bound delay x ≤ e.slot + delay) (sym is) (omega arith)

-- it is the bound, or there is an entry that arrives in this slot
nearer_one : (bound delay : ℕ) (o : Option Entry) → (arrival_of bound delay o ≡ bound) ⊎ ((e : Entry) × (o ≡ Some e) × (e.slot + delay ≡ arrival_of bound delay o))
nearer_one bound delay None = inl refl
nearer_one bound delay (Some e) = by_order (cases_lt (e.slot + delay) bound)
  where
    by_order : (e.slot + delay < bound) ⊎ (bound ≤ e.slot + delay) → (arrival_of bound delay (Some e) ≡ bound) ⊎ ((f : Entry) × (Some e ≡ Some f) × (f.slot + delay ≡ arrival_of bound delay (Some e)))
    by_order (inl less) = inr (e, refl, omega (arith, less))
    by_order (inr not) = inl (omega (arith, not))

later_end : (x : InletRec) (xs : List InletRec) (slot : Slot) → ArrivesFirst xs slot → ArrivesFirst (x ∷ xs) slot
later_end x xs slot a = record { end = suc a.end; there = omega (arith, a.there); entry = a.entry; first = a.first; at = a.at }

is_nearest : (bound : Slot) (xs : List InletRec) → IsNearest bound xs (fold nearer_arrival bound xs)
is_nearest bound [] = record { within = omega arith; least = λ end e is. absurd (none-some e is); one = inl refl }
is_nearest bound (x ∷ xs) =
    let rest = is_nearest (nearer_arrival bound x) xs in
    record {
      within = omega (arith, rest.within, nearer_within bound x.delay (slice_get x.queue 0));
      least = least rest.within rest.least;
      one = one rest.one (nearer_one bound x.delay (slice_get x.queue 0));
    }
  where
    result : Slot
    result = fold nearer_arrival (nearer_arrival bound x) xs

    least : result ≤ nearer_arrival bound x → ((end : EndNumber) (e : Entry) → slice_get (inlet_at xs end).queue 0 ≡ Some e → result ≤ e.slot + (inlet_at xs end).delay)
        → (end : EndNumber) (e : Entry) → slice_get (inlet_at (x ∷ xs) end).queue 0 ≡ Some e → result ≤ e.slot + (inlet_at (x ∷ xs) end).delay
    least within later zero e is = omega (arith, within, nearer_least bound x.delay (slice_get x.queue 0) e is)
    least within later (suc end) e is = later end e is

    one : (result ≡ nearer_arrival bound x) ⊎ ArrivesFirst xs result → (nearer_arrival bound x ≡ bound) ⊎ ((e : Entry) × (slice_get x.queue 0 ≡ Some e) × (e.slot + x.delay ≡ nearer_arrival bound x))
        → (result ≡ bound) ⊎ ArrivesFirst (x ∷ xs) result
    one (inr later) here = inr (later_end x xs result later)
    one (inl same) (inl none) = inl (same ∙ none)
    one (inl same) (inr found) = inr (record { end = 0; there = omega arith; entry = found.0; first = found.1; at = found.2 ∙ sym same })

-- ---- What arrives

module _ (slot delay : ℕ) where
  abbrev due : Entry → Type 0
  due e = slot < e.slot + delay

  not_now : (e : Entry) → due e → eqb (e.slot + delay) slot ≡ false
  not_now e later = ne_eqb (e.slot + delay) slot (λ same. omega (arith, later, same))

  follows : (e f : Entry) → due e → MayFollow e f → due f
  follows e f later (Later after) = omega (arith, later, after)
  follows e f later (Beside same token credit) = omega (arith, later, same)

  -- in a slot before the first of them arrives, none of those that wait does
  none_arrive : (queue : List Entry) → AreInSendingOrder queue → ((e : Entry) → slice_get queue 0 ≡ Some e → due e) → arriving slot delay queue ≡ []
  none_arrive [] order first = refl
  none_arrive (e ∷ queue) order first =
      let here : due e = first e refl in
      filter_none (λ (f : Entry). eqb (f.slot + delay) slot) (e ∷ queue)
      (not_now e here, all_weaker (MayFollow e) (λ (f : Entry). eqb (f.slot + delay) slot ≡ false) (λ f may. not_now f (follows e f here may)) queue order.0)

  -- in the slot of the first of them something does
  one_arrives : (queue : List Entry) (e : Entry) → slice_get queue 0 ≡ Some e → e.slot + delay ≡ slot → arriving slot delay queue ≡ [] → ⊥
  one_arrives [] e is at none = none-some e is
  one_arrives (f ∷ queue) e is at none =
      let same : f ≡ e = same_Some f e is in
      let now : eqb (f.slot + delay) slot ≡ true = eq-eqb (f.slot + delay) slot (ap (λ (g : Entry). g.slot + delay) same ∙ at) in
      let h = rw now at none in
      cc

past : (inlets : List InletRec) (end : EndNumber) → length inlets ≤ end → inlet_at inlets end ≡ no_inlet
past [] end h = refl
past (x ∷ inlets) zero h = absurd (omega (arith, h))
past (x ∷ inlets) (suc end) h = past inlets end (omega (arith, h))

pub first_of_all : (P : Entry → Type 0) (queue : List Entry) (e : Entry) → AllByRecursion P queue → slice_get queue 0 ≡ Some e → P e
first_of_all P [] e all is = absurd (none-some e is)
first_of_all P (f ∷ queue) e all is = subst P (same_Some f e is) all.0

-- ---- Before the first arrival

module _ (from slot next : Slot) (before : slot < next) where
  none_by : (i : InletRec) → AreWaiting from i.delay i.queue → ((e : Entry) → slice_get i.queue 0 ≡ Some e → next ≤ e.slot + i.delay) → arriving slot i.delay i.queue ≡ []
  none_by i wait until = none_arrive slot i.delay i.queue wait.in_order (λ e first. omega (arith, before, until e first))

  module _ (inlets : List InletRec) (wait : AllWait from inlets) (until : AwaitsUntil next inlets) where
    -- nothing arrives
    pub none_at : (end : EndNumber) → arriving_at slot inlets end ≡ []
    none_at end = by_place (cases_lt end (length inlets))
      where
        by_place : (end < length inlets) ⊎ (length inlets ≤ end) → arriving_at slot inlets end ≡ []
        by_place (inr none) = ap (λ (i : InletRec). arriving slot i.delay i.queue) (past inlets end none)
        by_place (inl there) = none_by (inlet_at inlets end) (wait end there) (until end)

    pub nothing_comes : arrivals_by slot inlets ≡ no_arrivals
    nothing_comes = λ k. arrivals_of (λ end. none_at end k)

  pub all_stay : (delay : ℕ) (queue : List Entry) → AreInSendingOrder queue → ((e : Entry) → slice_get queue 0 ≡ Some e → next ≤ e.slot + delay) → arriving_after slot delay queue ≡ queue
  all_stay delay [] order until = refl
  all_stay delay (e ∷ queue) order until =
      let here : next ≤ e.slot + delay = until e refl in
      let rest : arriving_after slot delay queue ≡ queue = all_stay delay queue order.1 (λ f is. follows_until e f here (first_of_all (MayFollow e) queue f order.0 is)) in
      rw (lt-ltb slot (e.slot + delay) (omega (arith, before, here))) (ap (λ (es : List Entry). e ∷ es) rest)
    where
      follows_until : (e f : Entry) → next ≤ e.slot + delay → MayFollow e f → next ≤ f.slot + delay
      follows_until e f here (Later after) = omega (arith, here, after)
      follows_until e f here (Beside same token credit) = omega (arith, here, same)

  stays : (i : InletRec) → AreWaiting from i.delay i.queue → ((e : Entry) → slice_get i.queue 0 ≡ Some e → next ≤ e.slot + i.delay) → after_slot slot i ≡ i
  stays i wait until = λ k. record i { queue = all_stay i.delay i.queue wait.in_order until k }

  -- so nothing leaves the queues
  pub nothing_leaves : (inlets : List InletRec) → AllWait from inlets → AwaitsUntil next inlets → map (after_slot slot) inlets ≡ inlets
  nothing_leaves [] wait until = refl
  nothing_leaves (i ∷ inlets) wait until =
      let here : after_slot slot i ≡ i = stays i (wait 0 (omega arith)) (until 0) in
      let rest : map (after_slot slot) inlets ≡ inlets = nothing_leaves inlets (λ end there. wait (suc end) (omega (arith, there))) (λ end. until (suc end)) in
      λ k. here k ∷ rest k

-- ---- The first arrival

module _ (inlets : List InletRec) (few : length inlets ≤ 8) (bound from : Slot) (wait : AllWait from inlets) (result : Slot) (is : IsNearest bound inlets result) where
  pub first_is : IsFirst (some_arrive inlets) from bound result
  first_is = record {
    none_before = λ slot on before. none_brought (arriving_at slot inlets) (none_at from slot result before inlets wait is.least);
    there = by_one is.one (eq-or-lt_of_le is.within);
  }
    where
      by_one : (result ≡ bound) ⊎ ArrivesFirst inlets result → (result ≡ bound) ⊎ (result < bound) → ((from ≤ result) × (result < bound) × (some_arrive inlets result ≡ true)) ⊎ (result ≡ bound)
      by_one (inl same) order = inr same
      by_one (inr first) (inl same) = inr same
      by_one (inr first) (inr less) =
          let i = inlet_at inlets first.end in
          let due : from ≤ first.entry.slot + i.delay = first_of_all (λ (f : Entry). from ≤ f.slot + i.delay) i.queue first.entry (wait first.end first.there).due first.first in
          inl (
            omega (arith, due, first.at),
            less,
            one_brought (arriving_at result inlets) first.end (omega (arith, few, first.there))
                (kept_all (λ (f : Entry). IsNoLevel f.what) (λ (f : Entry). eqb (f.slot + i.delay) result) i.queue (wait first.end first.there).no_level)
                (one_arrives result i.delay i.queue first.entry first.first first.at),
          )

pub nearest_is_first : (inlets : List InletRec) → length inlets ≤ 8 → (bound from : Slot) → AllWait from inlets → IsFirst (some_arrive inlets) from bound (fold nearer_arrival bound inlets)
nearest_is_first inlets few bound from wait = first_is inlets few bound from wait (fold nearer_arrival bound inlets) (is_nearest bound inlets)

pub nearest_awaits : (inlets : List InletRec) (bound : Slot) → AwaitsUntil (fold nearer_arrival bound inlets) inlets
nearest_awaits inlets bound = (is_nearest bound inlets).least

pub nearest_within : (inlets : List InletRec) (bound : Slot) → fold nearer_arrival bound inlets ≤ bound
nearest_within inlets bound = (is_nearest bound inlets).within

-- Directed links by which nothing arrives for some slots.
use Rattle.std.proofs.Common.{◌≡◌, ℕ, zero, suc, ◌+◌, ◌<◌, ◌≤◌, false, eqb, Option, Some, None, List, [], ◌∷◌, ◌++◌, length, map, get_or, slice_get, refl, sym, ap, ◌∙◌, arith}
use Rattle.std.specs.Prelude.{IfSome}
use Rattle.std.specs.List.{AllByRecursion}
use Rattle.std.proofs.lemmas.Option.{none-some, same_Some}
use Rattle.xs_base.specs.Numbers.{Slot, Position, LinkNumber, EndNumber}
use Rattle.xs_base.specs.declared.entry.Entry.{Entry}
use Rattle.sys_plan.specs.Plan.{PlanRec, Arc, link_arcs, incoming}
use Rattle.serial_model.specs.Serial.{arriving, arriving_by, arrivals_at, token_among, credit_among}
use Rattle.quiet_laws.specs.Undisturbed.{no_arrivals}
use Rattle.crossings.specs.Crossings.{crossing_of, no_crossing, AreInSendingOrder, MayFollow, Later, Beside, IsDueFrom}
use Rattle.crossings.proofs.Arriving.{all-map}
use Rattle.run_plan.specs.declared.track.Track.{Track}
use Rattle.run_plan.specs.Tracks.{IsTrack}
use Rattle.run_plan.specs.Quiet.{ArrivesAfter}
use Rattle.run_plan.specs.Run.{AllCarry}
use Rattle.run_plan.proofs.Ends.{arriving_of, by-link, map-ends}

-- ---- One history

-- of entries that are due from one slot on and from a later one, each is due from any slot between them
pub due_between : (from slot to delay first : ℕ) (es : List Entry) → from ≤ slot → slot ≤ to → IsDueFrom from delay first es → IsDueFrom to delay first es → IsDueFrom slot delay first es
due_between from slot to delay zero es on within early late = all-map (λ (e : Entry). to ≤ e.slot + delay) (λ (e : Entry). slot ≤ e.slot + delay) (λ e h. omega (arith, h, within)) es late
due_between from slot to delay (suc first) [] on within early late = absurd early
due_between from slot to delay (suc first) (e ∷ es) on within early late = (omega (arith, early.0, on), due_between from slot to delay first es on within early.1 late.1)

not_now : (slot delay : ℕ) (e : Entry) → (e.slot + delay ≡ slot → ⊥) → eqb (e.slot + delay) slot ≡ false
not_now slot delay e apart = grind (arith, apart)

-- and none arrives in it
none_later : (slot delay : ℕ) (es : List Entry) → AllByRecursion (λ (e : Entry). slot < e.slot + delay) es → arriving slot delay es ≡ []
none_later slot delay [] late = refl
none_later slot delay (e ∷ es) late =
    let here = not_now slot delay e (λ same. omega (arith, same, late.0)) in
    rw here (none_later slot delay es late.1)

pub none_arrive : (from slot to delay first : ℕ) (es : List Entry) → from ≤ slot → slot < to → IsDueFrom from delay first es → IsDueFrom to delay first es → arriving slot delay es ≡ []
none_arrive from slot to delay zero es on before early late =
    none_later slot delay es (all-map (λ (e : Entry). to ≤ e.slot + delay) (λ (e : Entry). slot < e.slot + delay) (λ e h. omega (arith, h, before)) es late)
none_arrive from slot to delay (suc first) [] on before early late = absurd early
none_arrive from slot to delay (suc first) (e ∷ es) on before early late =
    let here = not_now slot delay e (λ same. omega (arith, same, early.0, on)) in
    rw here (none_arrive from slot to delay first es on before early.1 late.1)

-- ---- The first entry that is still to come

no_earlier : (e f : Entry) → MayFollow e f → e.slot ≤ f.slot
no_earlier e f (Later less) = omega (arith, less)
no_earlier e f (Beside same one other) = omega (arith, same)

-- there is none
pub none_to_come : (from slot delay first : ℕ) (es : List Entry) → from ≤ slot + 1 → IsDueFrom from delay first es → slice_get es first ≡ None → IsDueFrom (slot + 1) delay first es
none_to_come from slot delay zero [] on due none = tt
none_to_come from slot delay zero (e ∷ es) on due none = absurd (none-some e (sym none))
none_to_come from slot delay (suc first) [] on due none = absurd due
none_to_come from slot delay (suc first) (e ∷ es) on due none = (omega (arith, due.0, on), none_to_come from slot delay first es on due.1 none)

-- it arrives after a slot, and so do those that follow it
pub first_to_come : (from slot delay first : ℕ) (es : List Entry) (e : Entry) → from ≤ slot + 1 → IsDueFrom from delay first es → AreInSendingOrder es → slice_get es first ≡ Some e → slot < e.slot + delay
    → IsDueFrom (slot + 1) delay first es
first_to_come from slot delay zero [] e on due order here late = tt
first_to_come from slot delay zero (x ∷ es) e on due order here late =
    let same = ap (λ (y : Entry). y.slot) (same_Some x e here) in (
      omega (arith, same, late),
      all-map (MayFollow x) (λ (f : Entry). slot + 1 ≤ f.slot + delay) (λ f follows. let l = no_earlier x f follows in omega (arith, same, late, l)) es order.0,
    )
first_to_come from slot delay (suc first) [] e on due order here late = absurd due
first_to_come from slot delay (suc first) (x ∷ es) e on due order here late = (omega (arith, due.0, on), first_to_come from slot delay first es e on due.1 order.1 here late)

-- whether there is one or not
pub next_to_come : (from slot delay first : ℕ) (es : List Entry) (next : Option Entry) → from ≤ slot + 1 → IsDueFrom from delay first es → AreInSendingOrder es → slice_get es first ≡ next
    → IfSome next (λ (e : Entry). slot < e.slot + delay) → IsDueFrom (slot + 1) delay first es
next_to_come from slot delay first es None on due order here late = none_to_come from slot delay first es on due here
next_to_come from slot delay first es (Some e) on due order here late = first_to_come from slot delay first es e on due order here late

-- ---- A directed link

pub after_sooner : (from slot to : ℕ) (track : Track) → from ≤ slot → slot ≤ to → IsTrack from track → ArrivesAfter to track → ArrivesAfter slot track
after_sooner from slot to track on within is after =
    due_between from (slot + 1) (to + 1) track.delay track.first track.history.entries (omega (arith, on)) (omega (arith, within)) is.due after

module _ (from to : ℕ) (on : from ≤ to) where
  none_then : (slot : Slot) (track : Track) → from ≤ slot → slot ≤ to → IsTrack from track → ArrivesAfter to track → arriving slot track.delay track.history.entries ≡ []
  none_then slot track first within is after =
      none_arrive from slot (to + 1) track.delay track.first track.history.entries first (omega (arith, within)) is.due after

  -- nothing arrives by it before the later slot
  pub none_arrived : (track : Track) → IsTrack from track → ArrivesAfter to track → track.arrived ≡ no_crossing
  none_arrived track is after = is.arrived ∙ ap crossing_of (none_then from track (omega arith) on is after)

  -- it is as it is before that slot
  pub track_later : (track : Track) → IsTrack from track → ArrivesAfter to track → IsTrack to track
  track_later track is after = record {
    from_end = is.from_end;
    delayed = is.delayed;
    in_order = is.in_order;
    no_level = is.no_level;
    before = all-map (λ (e : Entry). e.slot < from) (λ (e : Entry). e.slot < to) (λ e l. omega (arith, l, on)) track.history.entries is.before;
    few = omega (arith, is.few, on);
    due = due_between from to (to + 1) track.delay track.first track.history.entries on (omega arith) is.due after;
    arrived = none_arrived track is after ∙ ap crossing_of (sym (none_then to track on (omega arith) is after));
  }

  -- ---- All of them

  none_at : (slot : Slot) → from ≤ slot → slot ≤ to → (ds : List Arc) (tracks : List Track) (histories : List (List Entry)) (k : ℕ)
      → AllCarry ds tracks histories → AllByRecursion (IsTrack from) tracks → AllByRecursion (ArrivesAfter to) tracks
      → arriving slot (get_or (map (λ (d : Arc). d.delay) ds) k 0) (get_or histories k []) ≡ []
  none_at slot first within [] [] [] k carry all after = refl
  none_at slot first within (d ∷ ds) (t ∷ ts) (h ∷ hs) zero carry all after =
      (λ i. arriving slot (sym carry.0.delay i) (sym carry.0.entries i)) ∙ none_then slot t first within all.0 after.0
  none_at slot first within (d ∷ ds) (t ∷ ts) (h ∷ hs) (suc k) carry all after = none_at slot first within ds ts hs k carry.1 all.1 after.1
  none_at slot first within _ _ _ k carry all after = absurd carry

  module _ (plan : PlanRec) (tracks : List Track) (link_histories wire_histories histories : List (List Entry)) (split : histories ≡ link_histories ++ wire_histories)
      (long : length link_histories ≡ length (link_arcs plan.links)) (carry : AllCarry (link_arcs plan.links) tracks link_histories) (all : AllByRecursion (IsTrack from) tracks)
      (after : AllByRecursion (ArrivesAfter to) tracks) (slot : Slot) (first : from ≤ slot) (within : slot ≤ to) where
    of_link : (link : Option LinkNumber) → arriving_of (link_arcs plan.links) link_histories slot link ≡ []
    of_link None = refl
    of_link (Some k) = none_at slot first within (link_arcs plan.links) tracks link_histories k carry all after

    by_end : (n : Position) (end : EndNumber) → end < 8 → arriving_by plan histories slot (incoming plan n end) ≡ []
    by_end n end below = by-link plan n end below link_histories wire_histories histories split long slot ∙ of_link (incoming plan n end)

    -- nothing arrives anywhere
    pub nothing_anywhere : (n : Position) → arrivals_at plan histories slot n ≡ no_arrivals
    nothing_anywhere n =
        let tokens = map-ends (λ end. token_among (arriving_by plan histories slot (incoming plan n end))) (λ end. None) (λ end below. ap token_among (by_end n end below)) in
        let credits = map-ends (λ end. credit_among (arriving_by plan histories slot (incoming plan n end))) (λ end. false) (λ end below. ap credit_among (by_end n end below)) in
        λ i. record { tokens = tokens i; credits = credits i }

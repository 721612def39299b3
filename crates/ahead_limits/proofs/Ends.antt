-- Which link ends let a node run, and which stops it, one by one.
use Rattle.std.proofs.Common.{◌≡◌, ◌≢◌, ℕ, zero, suc, ◌+◌, ◌<◌, Bool, true, false, ◌&&◌, eqb, ltb, cond, IfSome, IsNone, ◌↔◌, Option, Some, None, List, [], ◌∷◌, slice_get, refl, sym, ap, ◌∙◌, subst, arith, inl, inr}
use mathlib.Core.Logic.{◌⊎◌}
use Rattle.std.specs.List.{list_all}
use Rattle.std.proofs.lemmas.Bool.{and_parts, eq-eqb, eqb-true, lt-ltb, ltb-true, cases_Bool}
use Rattle.std.proofs.lemmas.Option.{none-some, same_Some}
use Rattle.xs_base.specs.Numbers.{Slot}
use Rattle.ahead_limits.specs.declared.horizon.Seen.{Seen}
use Rattle.ahead_limits.specs.Horizon.{HorizonRec, horizon_at, may_run, lets_run, stops_at, or_later, first_stop, IsBelowAll, NoneStopsBelow, StopsAt}

module _ (clock : Slot) where
  -- ---- May it run?

  below_at : (x : Option Seen) (s : Seen) → lets_run clock x ≡ true → x ≡ Some s → clock < horizon_at s
  below_at x s h is = ltb-true clock (horizon_at s) (ap (lets_run clock) (sym is) ∙ h)

  pub all_below : (ends : List (Option Seen)) → list_all (lets_run clock) ends ≡ true → (end : ℕ) (s : Seen) → slice_get ends end ≡ Some (Some s) → clock < horizon_at s
  all_below [] h end s is = absurd (none-some (Some s) is)
  all_below (x ∷ ends) h zero s is = below_at x s (and_parts (lets_run clock x) (list_all (lets_run clock) ends) h).0 (same_Some x (Some s) is)
  all_below (x ∷ ends) h (suc end) s is = all_below ends (and_parts (lets_run clock x) (list_all (lets_run clock) ends) h).1 end s is

  lets_at : (x : Option Seen) → ((s : Seen) → x ≡ Some s → clock < horizon_at s) → lets_run clock x ≡ true
  lets_at None h = refl
  lets_at (Some s) h = lt-ltb clock (horizon_at s) (h s refl)

  pub below_all : (ends : List (Option Seen)) → ((end : ℕ) (s : Seen) → slice_get ends end ≡ Some (Some s) → clock < horizon_at s) → list_all (lets_run clock) ends ≡ true
  below_all [] h = refl
  below_all (x ∷ ends) h =
      λ i. lets_at x (λ s is. h 0 s (ap (λ (o : Option Seen). Some o) is)) i && below_all ends (λ end s is. h (suc end) s is) i

  -- ---- What stops it

  abbrev NotAt : Option Seen → Type 0
  NotAt x = (s : Seen) → x ≡ Some s → clock ≢ horizon_at s

  not_stopped : (x : Option Seen) → stops_at clock x ≡ None → NotAt x
  not_stopped x h s is at = none-some s.seen (sym h ∙ ap (stops_at clock) is ∙ ap (λ b. cond b (Some s.seen) None) (eq-eqb clock (horizon_at s) at))

  stopped_by : (s : Seen) (seen : Slot) → (eqb clock (horizon_at s) ≡ true) ⊎ (eqb clock (horizon_at s) ≡ false) → stops_at clock (Some s) ≡ Some seen → (s.seen ≡ seen) × (clock ≡ horizon_at s)
  stopped_by s seen (inl hit) h = (same_Some s.seen seen (sym (ap (λ b. cond b (Some s.seen) None) hit) ∙ h), eqb-true clock (horizon_at s) hit)
  stopped_by s seen (inr miss) h = absurd (none-some seen (sym (ap (λ b. cond b (Some s.seen) None) miss) ∙ h))

  -- the k-th of these link ends stops the node, and none before it
  pub record StopsFirst (ends : List (Option Seen)) (k : ℕ) (seen : Slot) : Type 0 where
    pub link : Seen
    pub there : slice_get ends k ≡ Some (Some link)
    pub seen_there : link.seen ≡ seen
    pub is_horizon : clock ≡ horizon_at link
    pub least : (j : ℕ) (t : Seen) → j < k → slice_get ends j ≡ Some (Some t) → clock ≢ horizon_at t

  stops_here : (x : Option Seen) (ends : List (Option Seen)) (seen : Slot) → stops_at clock x ≡ Some seen → StopsFirst (x ∷ ends) 0 seen
  stops_here None ends seen h = absurd (none-some seen h)
  stops_here (Some s) ends seen h =
      let by = stopped_by s seen (cases_Bool (eqb clock (horizon_at s))) h in
      record { link = s; there = refl; seen_there = by.0; is_horizon = by.1; least = λ j t less is. absurd (omega (arith, less)) }

  stops_later : (x : Option Seen) (ends : List (Option Seen)) (k : ℕ) (seen : Slot) → NotAt x → StopsFirst ends k seen → StopsFirst (x ∷ ends) (suc k) seen
  stops_later x ends k seen not s = record { link = s.link; there = s.there; seen_there = s.seen_there; is_horizon = s.is_horizon; least = first }
    where
      first : (j : ℕ) (t : Seen) → j < suc k → slice_get (x ∷ ends) j ≡ Some (Some t) → clock ≢ horizon_at t
      first zero t less is = not t (same_Some x (Some t) is)
      first (suc j) t less is = s.least j t (omega (arith, less)) is

  pub stop_is : (ends : List (Option Seen)) (n end : ℕ) (seen : Slot) → first_stop clock n ends ≡ Some (end, seen) → (k : ℕ) × (end ≡ n + k) × StopsFirst ends k seen
  stop_is [] n end seen h = absurd (none-some (end, seen) h)
  stop_is (x ∷ ends) n end seen h = by_stop (stops_at clock x) refl h (stop_is ends (n + 1) end seen)
    where
      by_stop : (o : Option Slot) → stops_at clock x ≡ o → or_later n o (first_stop clock (n + 1) ends) ≡ Some (end, seen)
          → (first_stop clock (n + 1) ends ≡ Some (end, seen) → (k : ℕ) × (end ≡ n + 1 + k) × StopsFirst ends k seen)
          → (k : ℕ) × (end ≡ n + k) × StopsFirst (x ∷ ends) k seen
      by_stop None is e rest =
          let more = rest e in (suc more.0, omega (arith, more.1), stops_later x ends more.0 seen (not_stopped x is) more.2)
      by_stop (Some s) is e rest =
          let same = same_Some (n, s) (end, seen) e in
          let end_is : n ≡ end = λ i. (same i).0 in
          (0, omega (arith, end_is), subst (StopsFirst (x ∷ ends) 0) (λ i. (same i).1) (stops_here x ends s is))

  pub none_stops : (ends : List (Option Seen)) (n : ℕ) → first_stop clock n ends ≡ None → (end : ℕ) (s : Seen) → slice_get ends end ≡ Some (Some s) → clock ≢ horizon_at s
  none_stops [] n h end s is = absurd (none-some (Some s) is)
  none_stops (x ∷ ends) n h end s is = by_stop (stops_at clock x) refl h (none_stops ends (n + 1)) end s is
    where
      by_stop : (o : Option Slot) → stops_at clock x ≡ o → or_later n o (first_stop clock (n + 1) ends) ≡ None
          → (first_stop clock (n + 1) ends ≡ None → (end : ℕ) (s : Seen) → slice_get ends end ≡ Some (Some s) → clock ≢ horizon_at s)
          → (end : ℕ) (s : Seen) → slice_get (x ∷ ends) end ≡ Some (Some s) → clock ≢ horizon_at s
      by_stop (Some seen) at e rest end s is = absurd (none-some (n, seen) (sym e))
      by_stop None at e rest zero s is = not_stopped x at s (same_Some x (Some s) is)
      by_stop None at e rest (suc end) s is = rest e end s is

-- ---- What that tells of a horizon

pub may_run_exactly : (h : HorizonRec) (clock : Slot) (result : Bool) → result ≡ may_run h clock → (result ≡ true) ↔ IsBelowAll h clock
may_run_exactly h clock result is = (there, back)
  where
    there : result ≡ true → IsBelowAll h clock
    there runs =
        let both = and_parts (ltb clock h.limit) (list_all (lets_run clock) h.ends) (sym is ∙ runs) in
        (ltb-true clock h.limit both.0, all_below clock h.ends both.1)

    back : IsBelowAll h clock → result ≡ true
    back below = is ∙ (λ i. lt-ltb clock h.limit below.0 i && below_all clock h.ends below.1 i)

pub stop_told : (h : HorizonRec) (clock : Slot) (result : Option (ℕ × ℕ)) → result ≡ first_stop clock 0 h.ends → IfSome result (λ stop. StopsAt h clock stop.0 stop.1)
stop_told h clock None is = tt
stop_told h clock (Some stop) is =
    let first = stop_is clock h.ends 0 stop.0 stop.1 (sym is) in
    let same : first.0 ≡ stop.0 = omega (arith, first.1) in
    let s = subst (λ end. StopsFirst clock h.ends end stop.1) same first.2 in
    record { link = s.link; there = s.there; seen_there = s.seen_there; is_horizon = s.is_horizon; least = λ end t less at. s.least end t less at }

pub none_told : (h : HorizonRec) (clock below : Slot) (result : Option (ℕ × ℕ)) → result ≡ first_stop clock 0 h.ends → IsNone result → NoneStopsBelow h clock below
none_told h clock below None is none = λ end s less at. none_stops clock h.ends 0 (sym is) end s at
none_told h clock below (Some stop) is none = absurd (some_is_no_none none)
  where
    some_is_no_none : IsNone (Some stop) → ⊥
    some_is_no_none h = cc

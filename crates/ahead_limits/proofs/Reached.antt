-- The ends from one on to which no arc comes: they let a node run, and none of them stops it.
use Rattle.std.proofs.Common.{◌≡◌, ℕ, zero, suc, ◌+◌, ◌≤◌, max, Option, None, List, [], ◌∷◌, get_or, set, take, drop, replicate, refl, sym, ap, ◌∙◌, arith, inl, inr}
use mathlib.Core.Logic.{◌⊎◌}
use Rattle.std.proofs.lemmas.Bool.{cases_eq, cases_lt}
use Rattle.std.proofs.lemmas.List.{get_or-set_other}
use Rattle.xs_base.specs.Numbers.{Slot}
use Rattle.ahead_limits.specs.declared.horizon.Seen.{Seen}
use Rattle.ahead_limits.specs.Horizon.{first_stop, stops_at, or_later, seen_to}
use Rattle.ahead_limits.specs.Bound.{nearer, least_bound, NoneFrom}
use Rattle.ahead_limits.proofs.Told.{ToldBelow}

pub none-anywhere : (count k : ℕ) → get_or {A = Option Seen} (replicate count None) k None ≡ None
none-anywhere zero k = refl
none-anywhere (suc count) zero = refl
none-anywhere (suc count) (suc k) = none-anywhere count k

-- the ends below it have the bound of all
pub least_reached : (limit : Slot) (ends : List (Option Seen)) (n : ℕ) → NoneFrom n ends → least_bound limit (take n ends) ≡ least_bound limit ends
least_reached limit [] zero none = refl
least_reached limit [] (suc n) none = refl
least_reached limit (x ∷ ends) zero none =
    least_reached limit ends zero (λ k far. none (suc k) (omega arith)) ∙ ap (λ y. least_bound (nearer limit y) ends) (sym (none 0 (omega arith)))
least_reached limit (x ∷ ends) (suc n) none = least_reached (nearer limit x) ends n (λ k far. none (suc k) (omega (arith, far)))

-- and no other one stops a node
none_stops : (clock : Slot) (n : ℕ) (ends : List (Option Seen)) → NoneFrom 0 ends → first_stop clock n ends ≡ None
none_stops clock n [] none = refl
none_stops clock n (x ∷ ends) none =
    ap (λ y. or_later n (stops_at clock y) (first_stop clock (n + 1) ends)) (none 0 (omega arith)) ∙ none_stops clock (n + 1) ends (λ k far. none (suc k) (omega arith))

dropped : (n : ℕ) (ends : List (Option Seen)) → NoneFrom n ends → NoneFrom 0 (drop n ends)
dropped zero ends none = none
dropped (suc n) [] none = λ k far. refl
dropped (suc n) (x ∷ ends) none = dropped n ends (λ k far. none (suc k) (omega (arith, far)))

pub none_stops_from : (clock : Slot) (n : ℕ) (ends : List (Option Seen)) → NoneFrom n ends → first_stop clock n (drop n ends) ≡ None
none_stops_from clock n ends none = none_stops clock n (drop n ends) (dropped n ends none)

-- ---- Where an end is written

pub none-written : (n : ℕ) (ends : List (Option Seen)) (x : Option Seen) → NoneFrom n ends → NoneFrom (n + 1) (set ends n x)
none-written n ends x none k far =
    let apart : k ≡ n → ⊥ = λ same. omega (arith, same, far) in
    get_or-set_other ends n k x None apart ∙ none k (omega (arith, far))

pub none-added : (n end : ℕ) (ends : List (Option Seen)) (x : Option Seen) → NoneFrom n ends → NoneFrom (max n (end + 1)) (set ends end x)
none-added n end ends x none k far =
    let apart : k ≡ end → ⊥ = λ same. omega (arith, same, far) in
    get_or-set_other ends end k x None apart ∙ none k (omega (arith, far))

pub none-seen : (n end to : ℕ) (ends : List (Option Seen)) → NoneFrom n ends → NoneFrom n (set ends end (seen_to to (get_or ends end None)))
none-seen n end to ends none k far = by_case (cases_eq k end)
  where
    by_case : (k ≡ end) ⊎ (k ≡ end → ⊥) → get_or (set ends end (seen_to to (get_or ends end None))) k None ≡ None
    by_case (inl same) = none_again ends k end same (none k far)
      where
        none_again : (es : List (Option Seen)) (i j : ℕ) → i ≡ j → get_or es i None ≡ None → get_or (set es j (seen_to to (get_or es j None))) i None ≡ None
        none_again [] i j same h = refl
        none_again (x ∷ es) zero zero same h = ap (seen_to to) h
        none_again (x ∷ es) zero (suc j) same h = absurd (omega (arith, same))
        none_again (x ∷ es) (suc i) zero same h = absurd (omega (arith, same))
        none_again (x ∷ es) (suc i) (suc j) same h = none_again es i j (omega (arith, same)) h
    by_case (inr other) = get_or-set_other ends end k (seen_to to (get_or ends end None)) None other ∙ none k far

-- ---- What is told of the ends below it is told of all

pub told-past : (f : ℕ → Option Seen) (n : ℕ) (ends : List (Option Seen)) → ((k : ℕ) → n ≤ k → f k ≡ None) → NoneFrom n ends → ToldBelow f n ends → (m : ℕ) → ToldBelow f m ends
told-past f n ends past none told m k below = elim (cases_lt k n) [
  | inl near ↦ told k near
  | inr far ↦ none k far ∙ sym (past k far)
]

-- The least of the ids near two ids that pass a test.
use Rattle.std.proofs.Common.{ℕ, zero, suc, ◌≡◌, ◌+◌, ◌≤◌, ◌<◌, Bool, true, false, cond, Option, Some, None, min, ◌⊎◌, inl, inr, refl, sym, ap, subst, ◌∙◌, arith}
use Rattle.std.proofs.lemmas.Bool.{false≢true, cases_lt}
use Rattle.xs_base.specs.Numbers.{NodeId}
use Rattle.rank_model.specs.Next.{or_first, first_from}
use Rattle.route_ranks.specs.Nearest.{nearest, lesser, or_lesser}

-- the least that passes of those at the first so many bits
unfoldable pub least : (NodeId → Bool) → NodeId → NodeId → ℕ → Option NodeId
least test a b zero = None
least test a b (suc k) = or_lesser test (or_lesser test (least test a b k) (nearest a k)) (nearest b k)

-- whether an id is found that is at most another
abbrev pub IsFoundBy : NodeId → Option NodeId → Type 0
IsFoundBy dest None = ⊥
IsFoundBy dest (Some found) = found ≤ dest

-- whether what is found is an id, and passes
abbrev pub Passes : (NodeId → Bool) → Option NodeId → Type 0
Passes test None = Unit {0}
Passes test (Some found) = (found < 65536) × (test found ≡ true)

false_by : (b : Bool) → (b ≡ true → ⊥) → b ≡ false
false_by true not = absurd (not refl)
false_by false not = refl

module _ (test : NodeId → Bool) where
  -- ---- A further id

  passes_too : (b : Bool) (found : Option NodeId) (dest : NodeId) → test dest ≡ b → dest < 65536 → Passes test found → Passes test (cond b (Some (lesser found dest)) found)
  passes_too false found dest is within passes = passes
  passes_too true None dest is within passes = (within, is)
  passes_too true (Some found) dest is within passes = passes_lesser (cases_lt found dest)
    where
      passes_lesser : (found < dest) ⊎ (dest ≤ found) → Passes test (Some (min found dest))
      passes_lesser (inl less) = (omega (arith, passes.0, within), ap test (omega (arith, less)) ∙ passes.1)
      passes_lesser (inr most) = (omega (arith, passes.0, within), ap test (omega (arith, most)) ∙ is)

  found_still : (b : Bool) (found : Option NodeId) (dest other : NodeId) → IsFoundBy other found → IsFoundBy other (cond b (Some (lesser found dest)) found)
  found_still false found dest other by = by
  found_still true None dest other by = absurd by
  found_still true (Some found) dest other by = omega (arith, by)

  found_now : (b : Bool) (found : Option NodeId) (dest : NodeId) → b ≡ true → IsFoundBy dest (cond b (Some (lesser found dest)) found)
  found_now false found dest is = absurd (false≢true is)
  found_now true None dest is = omega arith
  found_now true (Some found) dest is = omega arith

  module _ (a b : NodeId) where
    nearest_within : (id bit : ℕ) → nearest id bit < 65536
    nearest_within id bit = omega arith

    pub least_none : least test a b 0 ≡ None
    unfolding least
    least_none = refl

    pub least_next : (count bit : ℕ) → count ≡ suc bit → least test a b count ≡ or_lesser test (or_lesser test (least test a b bit) (nearest a bit)) (nearest b bit)
    unfolding least
    least_next count bit is = rw is refl

    -- what is found passes
    pub least_passes : (count : ℕ) → Passes test (least test a b count)
    unfolding least
    least_passes zero = tt
    least_passes (suc k) =
        passes_too (test (nearest b k)) (or_lesser test (least test a b k) (nearest a k)) (nearest b k) refl (nearest_within b k)
        (passes_too (test (nearest a k)) (least test a b k) (nearest a k) refl (nearest_within a k) (least_passes k))

    -- and it is at most each that passes
    pub least_by : (count bit : ℕ) (dest : NodeId) → bit < count → test dest ≡ true → (dest ≡ nearest a bit) ⊎ (dest ≡ nearest b bit) → IsFoundBy dest (least test a b count)
    unfolding least
    least_by zero bit dest below is near = absurd (omega (arith, below))
    least_by (suc k) bit dest below is near = at_step (λ less. least_by k bit dest less is near) (cases_lt bit k)
      where
        found : Option NodeId
        found = or_lesser test (least test a b k) (nearest a k)

        here : (dest ≡ nearest a k) ⊎ (dest ≡ nearest b k) → IsFoundBy dest (or_lesser test found (nearest b k))
        here (inl at) =
            found_still (test (nearest b k)) found (nearest b k) dest
            (subst (λ d. IsFoundBy d found) (sym at) (found_now (test (nearest a k)) (least test a b k) (nearest a k) (ap test (sym at) ∙ is)))
        here (inr at) = subst (λ d. IsFoundBy d (or_lesser test found (nearest b k))) (sym at) (found_now (test (nearest b k)) found (nearest b k) (ap test (sym at) ∙ is))

        at_step : (bit < k → IsFoundBy dest (least test a b k)) → (bit < k) ⊎ (k ≤ bit) → IsFoundBy dest (or_lesser test found (nearest b k))
        at_step before (inl less) =
            found_still (test (nearest b k)) found (nearest b k) dest
            (found_still (test (nearest a k)) (least test a b k) (nearest a k) dest (before less))
        at_step before (inr most) = here (subst (λ j. (dest ≡ nearest a j) ⊎ (dest ≡ nearest b j)) (omega (arith, below, most)) near)

  -- ---- The first of all

  abbrev pub look : NodeId → Option NodeId
  look dest = cond (test dest) (Some dest) None

  abbrev first_at : ℕ → ℕ → Bool → Option NodeId
  first_at n count passes = or_first (cond passes (Some n) None) (first_from look (n + 1) count)

  none_first : (n count : ℕ) → ((dest : NodeId) → dest < n + count → test dest ≡ false) → first_from look n count ≡ None
  unfolding first_from
  none_first n zero none = refl
  none_first n (suc count) none = ap (first_at n count) (none n (omega arith)) ∙ none_first (n + 1) count (λ dest less. none dest (omega (arith, less)))

  some_first : (n count it : ℕ) → n ≤ it → it < n + count → test it ≡ true → ((dest : NodeId) → dest < it → test dest ≡ false) → first_from look n count ≡ Some it
  unfolding first_from
  some_first n zero it from within passes none = absurd (omega (arith, from, within))
  some_first n (suc count) it from within passes none =
      at_step (λ less. some_first (n + 1) count it (omega (arith, less)) (omega (arith, within)) passes none) (cases_lt n it)
    where
      at_step : (n < it → first_from look (n + 1) count ≡ Some it) → (n < it) ⊎ (it ≤ n) → first_from look n (suc count) ≡ Some it
      at_step later (inl less) = ap (first_at n count) (none n less) ∙ later less
      at_step later (inr most) =
          let here : n ≡ it = omega (arith, from, most) in
          ap (first_at n count) (ap test here ∙ passes) ∙ ap Some here

  -- what passes and is at most each that passes is the first of all
  pub first_is : (o : Option NodeId) → Passes test o → ((dest : NodeId) → dest < 65536 → test dest ≡ true → IsFoundBy dest o) → first_from look 0 65536 ≡ o
  first_is None passes by = none_first 0 65536 (λ dest less. false_by (test dest) (λ is. by dest (omega (arith, less)) is))
  first_is (Some found) passes by =
      some_first 0 65536 found (omega arith) (omega (arith, passes.0)) passes.1
      (λ dest less. false_by (test dest) (λ is. absurd (omega (arith, less, by dest (omega (arith, less, passes.0)) is))))

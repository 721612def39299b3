-- One more event after those of which the first n are kept.
use Rattle.std.proofs.Common.{◌≡◌, ℕ, ◌+◌, ◌-◌, ◌<◌, ◌≤◌, List, [], ◌∷◌, ◌++◌, length, take, ap, sym, ◌∙◌, arith, length-append}
use Rattle.std.proofs.lemmas.List.{length-take, take_all, take-append-le}

module _ {X : Type 0} (n : ℕ) (kept all : List X) (e : X) (same : kept ≡ take n all) where
  length-kept : length kept ≡ length (take n all)
  length-kept = ap length same

  fewer : length kept < n → length all < n
  fewer h = omega (arith, length-kept, length-take n all)

  pub kept-more : length kept < n → kept ++ e ∷ [] ≡ take n (all ++ e ∷ [])
  kept-more h =
      let few : length all < n = fewer h in
      ap (λ xs. xs ++ e ∷ []) (same ∙ take_all n all (omega arith))
      ∙ sym (take_all n (all ++ e ∷ []) (omega (arith, length-append all (e ∷ []))))

  pub rest-none : length kept < n → length all - n ≡ length (all ++ e ∷ []) - n
  rest-none h =
      let few : length all < n = fewer h in
      omega (arith, length-append all (e ∷ []))

  pub kept-same : n ≤ length kept → kept ≡ take n (all ++ e ∷ [])
  kept-same h = same ∙ sym (take-append-le n all (e ∷ []) (omega (arith, length-kept, length-take n all)))

  pub rest-more : n ≤ length kept → (length all - n) + 1 ≡ length (all ++ e ∷ []) - n
  rest-more h = omega (arith, length-kept, length-take n all, length-append all (e ∷ []))

-- one more that is to be kept fits its room
pub one_fits : (len spare capacity most : ℕ) → (capacity < most → len + spare ≤ capacity) → len < most → 1 ≤ spare → len < capacity
one_fits len spare capacity most room few some = grind (arith, room)

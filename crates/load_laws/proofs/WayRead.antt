-- By the bit in which the id of the node after a node differs, link end 0 leads on, and no other.
use Rattle.std.proofs.Common.{◌≡◌, ℕ, zero, suc, ◌<◌, Bool, true, false, ◌&&◌, ◌||◌, ◌==◌, List, [], ◌∷◌, ◌++◌, refl, sym, ap, ◌∙◌, inl, inr, arith}
use Rattle.std.specs.Prelude.{slice_index}
use Rattle.std.specs.List.{list_any}
use Rattle.std.proofs.lemmas.Bool.{cases_Bool, and_from, and_left, or_parts, cond-true, cond-false, eq-eqb, ne_eqb}
use Rattle.std.proofs.lemmas.List.FromFn.{get_or-map-range_with_len}
use Rattle.xs_base.specs.declared.numbers.TheConstants.{LINK_ENDS}
use Rattle.system_model.specs.Bits.{BitRec}
use Rattle.system_model.specs.System.{ends_for, mask_where, way, ways_of}
use Rattle.load_model.specs.Load.{route_bit_at}
use Rattle.load_laws.proofs.Counted.{below_or_at, any_none, any_one}
use Rattle.load_laws.proofs.States.{bit_given, bits_of}

-- whether a line of a bit is that of a node and a bit
abbrev is_of : ℕ → ℕ → BitRec → Bool
is_of number bit b = (b.node == number) && (b.bit == bit)

-- the ends that are among the first are found there
ends_before : (number bit : ℕ) (xs ys : List BitRec) → list_any (is_of number bit) xs ≡ true → ends_for (xs ++ ys) number bit ≡ ends_for xs number bit
ends_before number bit [] ys h = cc
ends_before number bit (x ∷ xs) ys h = elim (cases_Bool (is_of number bit x)) [
  | inl e ↦ cond-true (is_of number bit x) x.ends (ends_for (xs ++ ys) number bit) e ∙ sym (cond-true (is_of number bit x) x.ends (ends_for xs number bit) e)
  | inr e ↦
      cond-false (is_of number bit x) x.ends (ends_for (xs ++ ys) number bit) e
      ∙ ends_before number bit xs ys (sym (ap (λ b. b || list_any (is_of number bit) xs) e) ∙ h)
      ∙ sym (cond-false (is_of number bit x) x.ends (ends_for xs number bit) e)
]

-- and those that are not are looked for behind them
ends_behind : (number bit : ℕ) (xs ys : List BitRec) → list_any (is_of number bit) xs ≡ false → ends_for (xs ++ ys) number bit ≡ ends_for ys number bit
ends_behind number bit [] ys h = refl
ends_behind number bit (x ∷ xs) ys h =
    let parts = or_parts (is_of number bit x) (list_any (is_of number bit) xs) h in
    cond-false (is_of number bit x) x.ends (ends_for (xs ++ ys) number bit) parts.0 ∙ ends_behind number bit xs ys parts.1

-- each node's bit has its line
ends_found : (n k i : ℕ) → i < k → ends_for (bits_of n k) i (route_bit_at n i) ≡ 0 ∷ []
ends_found n zero i l = absurd (omega arith)
ends_found n (suc k) i l = elim (below_or_at i k l) [
  | inl low ↦
      ends_before i (route_bit_at n i) (bits_of n k) (bit_given n k ∷ [])
      (any_one (is_of i (route_bit_at n i)) (bit_given n) k i low (and_from _ _ (eq-eqb i i refl) (eq-eqb (route_bit_at n i) (route_bit_at n i) refl)))
      ∙ ends_found n k i low
  | inr here ↦
      ends_behind i (route_bit_at n i) (bits_of n k) (bit_given n k ∷ [])
      (any_none (is_of i (route_bit_at n i)) (bit_given n) k (λ j b. and_left (j == i) _ (ne_eqb j i (λ e. omega (arith, b, e, here)))))
      ∙ cond-true (is_of i (route_bit_at n i) (bit_given n k)) (0 ∷ []) [] (and_from _ _ (eq-eqb k i (sym here)) (eq-eqb (route_bit_at n k) (route_bit_at n i) (ap (route_bit_at n) (sym here))))
]

-- link end 0 alone, as a mask
first_alone : mask_where (λ end. list_any (λ e. e == end) (0 ∷ [])) LINK_ENDS ≡ 1
unfolding mask_where
first_alone = refl

-- the way by a bit
way_by : (bits : List BitRec) (number bit : ℕ) → bit < 16 → slice_index (ways_of bits number) bit ≡ way bits number bit
way_by bits number bit l = get_or-map-range_with_len (way bits number) 0 16 bit bit 0 l (omega arith)

-- the way to the node after node i
pub way_is : (n c i : ℕ) → i < c → route_bit_at n i < 16 → slice_index (ways_of (bits_of n c) i) (route_bit_at n i) ≡ 1
way_is n c i l b =
    way_by (bits_of n c) i (route_bit_at n i) b
    ∙ ap (λ ends. mask_where (λ end. list_any (λ e. e == end) ends) LINK_ENDS) (ends_found n c i l) ∙ first_alone

-- The least id that first differs from an id at a bit.
use Rattle.std.proofs.Common.{ℕ, zero, suc, ◌≡◌, ◌+◌, ◌*◌, ◌/◌, ◌%◌, ◌^◌, ◌≤◌, ◌<◌, Bool, true, false, cond, eqb, Some, ◌⊎◌, inl, inr, refl, sym, ap, ◌∙◌, arith, div-add-mod'}
use Rattle.std.proofs.Math.Nat.{mod-eq_of_lt}
use Rattle.std.specs.Prelude.{bit_xor}
use Rattle.std.specs.Int.{bit_at}
use Rattle.std.proofs.lemmas.Bool.{eqb-true, cases_lt}
use Rattle.std.proofs.lemmas.Nat.{pow_pos, shr-shr}
use Rattle.std.proofs.lemmas.Nat.Bits.{bit_at-lt, bit_at_xor, bit_at_cat_high, bit_at_above, same_from_bits}
use Rattle.xs_base.specs.Numbers.{NodeId}
use Rattle.net_model.specs.Ways.{first_difference}
use Rattle.route_ranks.specs.Nearest.{nearest}

-- ---- Where two ids first differ

-- of the lowest count bits of two ids, bit is the highest in which they differ
pub record DiffersAt (count : ℕ) (id dest : NodeId) (bit : ℕ) : Type 0 where
  pub within : bit < count
  pub here : eqb (bit_at id bit) (bit_at dest bit) ≡ false
  pub above : (k : ℕ) → bit < k → k < count → eqb (bit_at id k) (bit_at dest k) ≡ true

pub differs_at : (count : ℕ) (id dest : NodeId) (bit : ℕ) → first_difference count id dest ≡ Some bit → DiffersAt count id dest bit
unfolding first_difference
differs_at zero id dest bit is = absurd (cc)
differs_at (suc k) id dest bit is = by (differs_at k id dest bit) (eqb (bit_at id k) (bit_at dest k)) refl is
  where
    above : (j : ℕ) → DiffersAt k id dest bit → eqb (bit_at id k) (bit_at dest k) ≡ true → bit < j → j < suc k → (j < k) ⊎ (k ≤ j) → eqb (bit_at id j) (bit_at dest j) ≡ true
    above j below same more within (inl less) = below.above j more less
    above j below same more within (inr most) = let last : j ≡ k = omega (arith, most, within) in ap (λ i. eqb (bit_at id i) (bit_at dest i)) last ∙ same

    by : (first_difference k id dest ≡ Some bit → DiffersAt k id dest bit) → (same : Bool) → eqb (bit_at id k) (bit_at dest k) ≡ same
        → cond same (first_difference k id dest) (Some k) ≡ Some bit → DiffersAt (suc k) id dest bit
    by lower true same is =
        let below = lower is in
        record { within = omega (arith, below.within); here = below.here; above = λ j more within. above j below same more within (cases_lt j k) }
    by lower false same is =
        let last : k ≡ bit = cc in
        record { within = omega (arith, last); here = ap (λ i. eqb (bit_at id i) (bit_at dest i)) (sym last) ∙ same; above = λ j more less. absurd (omega (arith, last, more, less)) }

pub difference_at : (count : ℕ) (id dest : NodeId) (bit : ℕ) → DiffersAt count id dest bit → first_difference count id dest ≡ Some bit
unfolding first_difference
difference_at zero id dest bit is = absurd (omega (arith, is.within))
difference_at (suc k) id dest bit is =
    by (λ less. difference_at k id dest bit (record { within = less; here = is.here; above = λ j more within. is.above j more (omega (arith, within)) })) (cases_lt bit k)
  where
    by : (bit < k → first_difference k id dest ≡ Some bit) → (bit < k) ⊎ (k ≤ bit) → first_difference (suc k) id dest ≡ Some bit
    by lower (inl less) = ap (λ (same : Bool). cond same (first_difference k id dest) (Some k)) (is.above k less (omega arith)) ∙ lower less
    by lower (inr most) =
        let last : k ≡ bit = omega (arith, most, is.within) in
        ap (λ (same : Bool). cond same (first_difference k id dest) (Some k)) (ap (λ i. eqb (bit_at id i) (bit_at dest i)) last ∙ is.here) ∙ ap Some last

-- ---- Without the bits below one

-- the bits from there on stay
bits_stay : (dest m k : ℕ) → m ≤ k → bit_at (dest / 2 ^ m * 2 ^ m) k ≡ bit_at dest k
bits_stay dest m k from =
    let none : dest / 2 ^ m * 2 ^ m ≡ dest / 2 ^ m * 2 ^ m + 0 = omega arith in
    ap (λ n. bit_at n k) none
    ∙ bit_at_cat_high (dest / 2 ^ m) m 0 k (pow_pos m) from
    ∙ sym (bit_at_cat_high (dest / 2 ^ m) m (dest % 2 ^ m) k (omega (arith, pow_pos m)) from)
    ∙ ap (λ n. bit_at n k) (div-add-mod' dest (2 ^ m))

pub at_most_it : (dest m : ℕ) → dest / 2 ^ m * 2 ^ m ≤ dest
at_most_it dest m = omega (arith, div-add-mod' dest (2 ^ m))

-- so an id first differs where it did, at that bit or above
pub differs_still : (m : ℕ) (id dest : NodeId) (bit : ℕ) → m ≤ bit → first_difference 16 id dest ≡ Some bit → first_difference 16 id (dest / 2 ^ m * 2 ^ m) ≡ Some bit
differs_still m id dest bit from is =
    let at = differs_at 16 id dest bit is in
    difference_at 16 id (dest / 2 ^ m * 2 ^ m) bit
    (record {
      within = at.within;
      here = ap (eqb (bit_at id bit)) (bits_stay dest m bit from) ∙ at.here;
      above = λ k more less. ap (eqb (bit_at id k)) (bits_stay dest m k (omega (arith, from, more))) ∙ at.above k more less;
    })

-- ---- At the bit itself

shifted : (n b i : ℕ) → bit_at (n / 2 ^ b) i ≡ bit_at n (b + i)
shifted n b i = ap (λ x. x % 2) (shr-shr n b i)

flipped : (x y : ℕ) → x < 2 → y < 2 → eqb x y ≡ false → (x + 1) % 2 ≡ y
flipped zero zero xs ys apart = absurd (cc)
flipped zero (suc zero) xs ys apart = refl
flipped (suc zero) zero xs ys apart = refl
flipped (suc zero) (suc zero) xs ys apart = absurd (cc)
flipped (suc (suc x)) y xs ys apart = absurd (omega (arith, xs))
flipped zero (suc (suc y)) xs ys apart = absurd (omega (arith, ys))
flipped (suc zero) (suc (suc y)) xs ys apart = absurd (omega (arith, ys))

module _ (id dest : NodeId) (bit : ℕ) (id_within : id < 65536) (dest_within : dest < 65536) (is : first_difference 16 id dest ≡ Some bit) where
  at : DiffersAt 16 id dest bit
  at = differs_at 16 id dest bit is

  same_by : (k : ℕ) → bit < k → (k < 16) ⊎ (16 ≤ k) → bit_at id k ≡ bit_at dest k
  same_by k more (inl less) = eqb-true (bit_at id k) (bit_at dest k) (at.above k more less)
  same_by k more (inr most) = bit_at_above id 16 k id_within most ∙ sym (bit_at_above dest 16 k dest_within most)

  xor_bits : (i : ℕ) → bit_at (bit_xor (id / 2 ^ bit) 1) i ≡ bit_at (dest / 2 ^ bit) i
  xor_bits zero =
      let here : bit + 0 ≡ bit = omega arith in
      bit_at_xor (id / 2 ^ bit) 1 0
      ∙ ap (λ x. (x + 1) % 2) (shifted id bit 0 ∙ ap (bit_at id) here)
      ∙ flipped (bit_at id bit) (bit_at dest bit) (bit_at-lt id bit) (bit_at-lt dest bit) at.here
      ∙ sym (shifted dest bit 0 ∙ ap (bit_at dest) here)
  xor_bits (suc i) =
      let same : bit_at id (bit + suc i) ≡ bit_at dest (bit + suc i) = same_by (bit + suc i) (omega arith) (cases_lt (bit + suc i) 16) in
      let none : bit_at 1 (suc i) ≡ 0 = bit_at_above 1 1 (suc i) (omega arith) (omega arith) in
      let all : bit_at (id / 2 ^ bit) (suc i) ≡ bit_at (dest / 2 ^ bit) (suc i) = shifted id bit (suc i) ∙ same ∙ sym (shifted dest bit (suc i)) in
      omega (arith, bit_at_xor (id / 2 ^ bit) 1 (suc i), none, all, bit_at-lt (dest / 2 ^ bit) (suc i))

  -- without the bits below, it is the least
  pub is_nearest : dest / 2 ^ bit * 2 ^ bit ≡ nearest id bit
  is_nearest =
      sym
      (ap (λ n. n * 2 ^ bit % 65536) (same_from_bits (bit_xor (id / 2 ^ bit) 1) (dest / 2 ^ bit) xor_bits)
      ∙ mod-eq_of_lt (omega (arith, at_most_it dest bit, dest_within)))

  pub bit_within : bit < 16
  bit_within = at.within

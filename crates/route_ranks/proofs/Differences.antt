-- The highest bit in which two ids differ, bit by bit from above.
use Rattle.std.proofs.Common.{ℕ, suc, ◌≡◌, Bool, true, false, cond, eqb, Some, None, ap}
use Rattle.std.specs.Int.{bit_at}
use Rattle.net_model.specs.Ways.{first_difference}

module _ (n k a b : ℕ) (is : n ≡ suc k) where
  pub difference_here : eqb (bit_at a k) (bit_at b k) ≡ false → first_difference n a b ≡ Some k
  unfolding first_difference
  difference_here test = rw is (ap (λ (t : Bool). cond t (first_difference k a b) (Some k)) test)

  pub difference_below : eqb (bit_at a k) (bit_at b k) ≡ true → first_difference n a b ≡ first_difference k a b
  unfolding first_difference
  difference_below test = rw is (ap (λ (t : Bool). cond t (first_difference k a b) (Some k)) test)

pub no_difference : (n a b : ℕ) → n ≡ 0 → first_difference n a b ≡ None
unfolding first_difference
no_difference n a b is = ap (λ (k : ℕ). first_difference k a b) is

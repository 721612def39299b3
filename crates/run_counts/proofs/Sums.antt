-- Sums over the numbers below one: one number more, and how great they may be.
use Rattle.std.proofs.Common.{◌≡◌, ℕ, zero, suc, ◌+◌, ◌*◌, ◌≤◌, Bool, true, false, ap, arith}
use Rattle.profile_model.specs.Sums.{sum_below, one_if, how_many}

pub sum-more : (f : ℕ → ℕ) (n : ℕ) → sum_below f (n + 1) ≡ sum_below f n + f n
sum-more f n =
    let next : n + 1 ≡ suc n = omega arith in
    ap (sum_below f) next

-- what a counter comes to that counts one more where something holds for the next number
pub one-counted : (holds : ℕ → Bool) (n before now after : ℕ) → now ≡ before + how_many holds n → after ≡ now + one_if (holds n)
    → after ≡ before + how_many holds (n + 1)
one-counted holds n before now after counted more = omega (arith, counted, more, sum-more (λ k. one_if (holds k)) n)

at-most-one : (b : Bool) → one_if b ≤ 1
at-most-one false = omega arith
at-most-one true = omega arith

pub how_many-few : (holds : ℕ → Bool) (n : ℕ) → how_many holds n ≤ n
how_many-few holds zero = omega arith
how_many-few holds (suc n) = omega (arith, how_many-few holds n, at-most-one (holds n))

-- of numbers of which each is at most 8
pub sum-few : (f : ℕ → ℕ) → ((k : ℕ) → f k ≤ 8) → (n : ℕ) → sum_below f n ≤ 8 * n
sum-few f few zero = omega arith
sum-few f few (suc n) = omega (arith, sum-few f few n, few n)

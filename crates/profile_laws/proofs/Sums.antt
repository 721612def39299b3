-- Sums of sums.
use Rattle.std.proofs.Common.{◌≡◌, ℕ, zero, suc, ◌+◌, ◌<◌, ◌≤◌, Bool, false, ◌==◌, ◌&&◌, refl, sym, ap, ◌∙◌, arith}
use Rattle.std.proofs.Math.Nat.{eq-or-lt_of_le}
use Rattle.std.proofs.Math.Logic.{⊎_elim}
use Rattle.std.proofs.lemmas.Bool.{ne_eqb, eq-eqb}
use Rattle.profile_model.specs.Sums.{sum_below, one_if}

pub sum-zero : (n : ℕ) → sum_below (λ i. 0) n ≡ 0
sum-zero zero = refl
sum-zero (suc n) = omega (arith, sum-zero n)

pub sum-both : (f g : ℕ → ℕ) (n : ℕ) → sum_below (λ i. f i + g i) n ≡ sum_below f n + sum_below g n
sum-both f g zero = omega arith
sum-both f g (suc n) = omega (arith, sum-both f g n)

-- the order of two sums
pub sum-swapped : (f : ℕ → ℕ → ℕ) (a b : ℕ) → sum_below (λ i. sum_below (f i) b) a ≡ sum_below (λ j. sum_below (λ i. f i j) a) b
sum-swapped f zero b = sym (sum-zero b)
sum-swapped f (suc a) b = ap (λ (n : ℕ). n + sum_below (f a) b) (sum-swapped f a b) ∙ sym (sum-both (λ j. sum_below (λ i. f i j) a) (f a) b)

-- ---- One of the numbers below one

none-of-these : (q m : ℕ) (b : Bool) → m ≤ q → sum_below (λ p. one_if ((q == p) && b)) m ≡ 0
none-of-these q zero b above = refl
none-of-these q (suc m) b above =
    let apart : (q == m) ≡ false = ne_eqb q m (λ same. omega (arith, above, same)) in
    let last : one_if ((q == m) && b) ≡ 0 = ap (λ (same : Bool). one_if (same && b)) apart in
    omega (arith, none-of-these q m b (omega (arith, above)), last)

pub one-of-these : (q m : ℕ) (b : Bool) → q < m → sum_below (λ p. one_if ((q == p) && b)) m ≡ one_if b
one-of-these q zero b within = absurd (omega (arith, within))
one-of-these q (suc m) b within =
    let its : q ≡ m → sum_below (λ p. one_if ((q == p) && b)) (suc m) ≡ one_if b =
    λ same.
    let last : one_if ((q == m) && b) ≡ one_if b = ap (λ (is : Bool). one_if (is && b)) (eq-eqb q m same) in
    omega (arith, none-of-these q m b (omega (arith, same)), last) in
    let before : q < m → sum_below (λ p. one_if ((q == p) && b)) (suc m) ≡ one_if b =
    λ below.
    let last : one_if ((q == m) && b) ≡ 0 = ap (λ (is : Bool). one_if (is && b)) (ne_eqb q m (λ same. omega (arith, below, same))) in
    omega (arith, one-of-these q m b below, last) in
    ⊎_elim its before (eq-or-lt_of_le (omega (arith, within)))

-- Sums over the numbers below one.
use Rattle.std.specs.Prelude.{ℕ, zero, suc, ◌+◌, Bool, true, false}

abbrev pub sum_below : (ℕ → ℕ) → ℕ → ℕ
sum_below f zero = 0
sum_below f (suc k) = sum_below f k + f k

abbrev pub one_if : Bool → ℕ
one_if false = 0
one_if true = 1

-- how many of them something holds for
abbrev pub how_many : (ℕ → Bool) → ℕ → ℕ
how_many holds n = sum_below (λ k. one_if (holds k)) n

-- Threads, and other things that have numbers, as the bits of a number.
use Rattle.std.specs.Prelude.{ℕ, Bool, ◌==◌, List, [], ◌∷◌, filter}
use Rattle.std.specs.Int.{bit_at}
use Rattle.xs_base.specs.Numbers.{ThreadNumber}

-- bit k of the mask is set
abbrev pub in_mask : ℕ → ThreadNumber → Bool
in_mask mask k = bit_at mask k == 1

-- the threads of a mask, in ascending order
abbrev pub members : ℕ → List ThreadNumber
members mask = filter (in_mask mask) (0 ∷ 1 ∷ 2 ∷ 3 ∷ 4 ∷ 5 ∷ 6 ∷ 7 ∷ [])

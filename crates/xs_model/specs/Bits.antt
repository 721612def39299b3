-- Numbers as lists of bits, the least significant bit first.
use Rattle.std.specs.Prelude.{ℕ, zero, suc, ◌+◌, ◌-◌, ◌*◌, ◌/◌, ◌%◌, List, [], ◌∷◌, length, drop}

-- the low n bits of a number
unfoldable pub bits_of : ℕ → ℕ → List ℕ
bits_of zero value = []
bits_of (suc n) value = value % 2 ∷ bits_of n (value / 2)

-- the number that has these bits
unfoldable pub value_of : List ℕ → ℕ
value_of [] = 0
value_of (bit ∷ bits) = bit + 2 * value_of bits

-- the last n of some bits, or all of them where they are fewer
abbrev pub last_bits : ℕ → List ℕ → List ℕ
last_bits n bits = drop (length bits - n) bits

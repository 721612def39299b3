use Rattle.std.proofs.Common.{ℕ, zero, suc, ◌≡◌, ◌+◌, ◌*◌, ◌/◌, ◌%◌, ◌^◌, ◌∙◌, arith}
use Rattle.std.specs.Int.{reverse_bits_onto}
use Rattle.std.proofs.Math.Nat.{pow-suc, zero-add}
use Rattle.xs_base.specs.Words.{reversed}
use Rattle.xs_base.proofs.words.bitrev.Goals as goal

-- one bit more before p
one_more : (a bit p rest : ℕ) → (a * 2 + bit) * p + rest ≡ a * (p * 2) + (bit * p + rest)
one_more a bit p rest = grind arith

-- std puts the reversed bits after those that it has already.
reversed_onto : (k n a : ℕ) → reverse_bits_onto k n a ≡ a * 2 ^ k + reversed k n
unfolding reverse_bits_onto reversed
reversed_onto zero n a = omega arith
reversed_onto (suc k) n a =
    rw (pow-suc 2 k) (reversed_onto k (n / 2) (a * 2 + n % 2) ∙ one_more a (n % 2) (2 ^ k) (reversed k (n / 2)))

pub returns : goal.returns
returns c = record { value = c.reverse_bits.ensures ∙ reversed_onto 32 c.args.a 0 ∙ zero-add _ }

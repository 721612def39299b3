use Rattle.std.proofs.Common.{ℕ, zero, suc, ◌≡◌, ◌+◌, ◌*◌, ◌^◌, ◌<◌, ◌≤◌, arith}
use Rattle.std.proofs.Math.Nat.{pow-suc, pow-le-pow_right}
use Rattle.std.proofs.lemmas.Nat.{leading_length}
use Rattle.std.proofs.lemmas.Bool.Decides.{nat_tests}
use Rattle.xs_base.specs.Words.{leading_zeros}
use Rattle.xs_base.proofs.words.clz.Goals as goal

-- Of k bits, all above the lowest m are zeros, where m bits are the fewest that hold a.
zeros_above : (k m a : ℕ) → m ≤ k → a < 2 ^ m → 2 ^ m ≤ 2 * a + 1 → leading_zeros k a + m ≡ k
unfolding leading_zeros
zeros_above zero m a within below least = omega arith
zeros_above (suc k) m a within below least = grind (arith, nat_tests, pow-suc 2 k, zeros_above k m a, pow-le-pow_right)

pub returns-clause-value : goal.returns-clause-value
returns-clause-value c =
    let (m, held, below, least) = leading_length 32 c.args.a (omega arith) in
    omega (arith, zeros_above 32 m c.args.a (omega arith) below least)

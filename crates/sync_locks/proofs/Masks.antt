-- The mask of the threads in a mask is that mask again.
use Rattle.std.proofs.Common.{ℕ, zero, suc, ◌≡◌, ◌+◌, ◌*◌, ◌/◌, ◌^◌, ◌<◌, cond, eqb, List, [], ◌∷◌, filter, refl, ap, ◌∙◌, arith}
use Rattle.std.specs.Int.{bit_at}
use Rattle.xs_model.specs.Masks.{in_mask, members}
use Rattle.sync_locks.specs.States.{mask_of}

abbrev value_of : ℕ → List ℕ → ℕ
value_of mask [] = 0
value_of mask (k ∷ ks) = bit_at mask k * 2 ^ k + value_of mask ks

one : (b k : ℕ) (rest : List ℕ) → b < 2 → mask_of (cond (eqb b 1) (k ∷ rest) rest) ≡ b * 2 ^ k + mask_of rest
one zero k rest h = let none : 0 * 2 ^ k ≡ 0 = omega arith in omega (arith, none)
one (suc zero) k rest h = omega arith
one (suc (suc b)) k rest h = absurd (omega arith)

listed : (mask : ℕ) (ks : List ℕ) → mask_of (filter (in_mask mask) ks) ≡ value_of mask ks
listed mask [] = refl
listed mask (k ∷ ks) =
    one (bit_at mask k) k (filter (in_mask mask) ks) (omega arith) ∙ ap (λ n. bit_at mask k * 2 ^ k + n) (listed mask ks)

-- a number of eight bits, from its halves
halves : (a b c d e f g h a' b' c' d' e' f' g' h' : ℕ) → a ≡ 2 * b + a' → b ≡ 2 * c + b' → c ≡ 2 * d + c' → d ≡ 2 * e + d' → e ≡ 2 * f + e' → f ≡ 2 * g + f' → g ≡ 2 * h + g' → h ≡ h'
    → a' * 1 + (b' * 2 + (c' * 4 + (d' * 8 + (e' * 16 + (f' * 32 + (g' * 64 + (h' * 128 + 0))))))) ≡ a
halves a b c d e f g h a' b' c' d' e' f' g' h' p q r s t u v w = omega (arith, p, q, r, s, t, u, v, w)

pub mask-again : (mask : ℕ) → mask < 2 ^ 8 → mask_of (members mask) ≡ mask
mask-again mask fits =
    listed mask (0 ∷ 1 ∷ 2 ∷ 3 ∷ 4 ∷ 5 ∷ 6 ∷ 7 ∷ [])
    ∙ halves mask (mask / 2) (mask / 4) (mask / 8) (mask / 16) (mask / 32) (mask / 64) (mask / 128)
    (bit_at mask 0) (bit_at mask 1) (bit_at mask 2) (bit_at mask 3) (bit_at mask 4) (bit_at mask 5) (bit_at mask 6) (bit_at mask 7)
    (omega arith) (omega arith) (omega arith) (omega arith) (omega arith) (omega arith) (omega arith) (omega (arith, fits))

-- Addresses, counted in two steps.
use Rattle.std.proofs.Common.{◌≡◌, ℕ, ◌+◌, ◌*◌, ◌%◌, ◌^◌, ◌∙◌, ap, arith}
use Rattle.std.proofs.Math.Nat.{add-mod-mod, mod-add-mod}

-- a distance may be taken modulo 2 ^ 32 first
pub up_by : (base distance : ℕ) → (base + distance % 2 ^ 32) % 2 ^ 32 ≡ (base + distance) % 2 ^ 32
up_by base distance = add-mod-mod base distance (2 ^ 32)

-- n words above the next one
pub next_up : (pc n : ℕ) → ((pc + 4) % 2 ^ 32 + 4 * n) % 2 ^ 32 ≡ (pc + 4 * (1 + n)) % 2 ^ 32
next_up pc n =
    let same : pc + 4 + 4 * n ≡ pc + 4 * (1 + n) = omega arith in
    mod-add-mod (pc + 4) (2 ^ 32) (4 * n) ∙ ap (λ k. k % 2 ^ 32) same

-- A status has no bit but the seven, whichever of them are cleared and set.
use Rattle.std.proofs.Common.{◌≡◌, ℕ, min, max, bit_and, bit_or, sym, ap, subst, ◌∙◌, arith}
use Rattle.std.specs.Int.{bit_at}
use Rattle.std.proofs.lemmas.Nat.{and_assoc, and_comm}
use Rattle.std.proofs.lemmas.Nat.Bits.{bit_at_and, bit_at_or, same_from_bits}

-- bits of a mask, without those that another one lacks
pub and_within : (a b mask : ℕ) → bit_and a mask ≡ a → bit_and (bit_and a b) mask ≡ bit_and a b
and_within a b mask within = and_assoc mask a b ∙ ap (bit_and a) (and_comm b mask) ∙ sym (and_assoc b a mask) ∙ ap (λ n. bit_and n b) within

-- where both numbers of a place are within a mask, so is the greater
max_within : (x y z : ℕ) → min x z ≡ x → min y z ≡ y → min (max x y) z ≡ max x y
max_within x y z one other = omega arith

-- bits of a mask, and other ones of it
pub or_within : (a b mask : ℕ) → bit_and a mask ≡ a → bit_and b mask ≡ b → bit_and (bit_or a b) mask ≡ bit_or a b
or_within a b mask one other = same_from_bits (bit_and (bit_or a b) mask) (bit_or a b) (λ i.
    let x = sym (bit_at_and a mask i) ∙ ap (λ n. bit_at n i) one in
    let y = sym (bit_at_and b mask i) ∙ ap (λ n. bit_at n i) other in
    bit_at_and (bit_or a b) mask i
    ∙ ap (λ n. min n (bit_at mask i)) (bit_at_or a b i)
    ∙ max_within (bit_at a i) (bit_at b i) (bit_at mask i) x y
    ∙ sym (bit_at_or a b i))

-- some are cleared, and then others of it are set
pub set_within : (was kept others cleared set mask : ℕ) → bit_and was mask ≡ was → bit_and others mask ≡ others → cleared ≡ bit_and was kept → set ≡ bit_or cleared others → bit_and set mask ≡ set
set_within was kept others cleared set mask within among first then =
    let least = subst (λ n. bit_and n mask ≡ n) (sym first) (and_within was kept mask within) in
    subst (λ n. bit_and n mask ≡ n) (sym then) (or_within cleared others mask least among)

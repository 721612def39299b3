-- A status has no bit but the seven, whichever of them are cleared and set.
use Rattle.std.proofs.Common.{◌≡◌, ℕ, ◌-◌, ◌%◌, min, max, bit_and, bit_or, sym, ap, ◌∙◌, arith}
use Rattle.std.specs.Int.{bit_at}
use Rattle.std.proofs.lemmas.Nat.{and_assoc, and_comm}
use Rattle.std.proofs.lemmas.Nat.Bits.{bit_at_and, bit_at_or, same_from_bits}
use Rattle.xs_model.specs.declared.status.Status.{Status}
use Rattle.xs_model.specs.declared.status.TheConstants.{SETTABLE, STATUS_BITS}
use Rattle.xs_model.specs.Status.{status, with_bits, without_bits, status_of, IsKnown}

-- bits of a mask, without those that another one lacks
and_within : (a b mask : ℕ) → bit_and a mask ≡ a → bit_and (bit_and a b) mask ≡ bit_and a b
and_within a b mask within = and_assoc mask a b ∙ ap (bit_and a) (and_comm b mask) ∙ sym (and_assoc b a mask) ∙ ap (λ n. bit_and n b) within

-- where both numbers of a place are within a mask, so is the greater
max_within : (x y z : ℕ) → min x z ≡ x → min y z ≡ y → min (max x y) z ≡ max x y
max_within x y z one other = omega arith

-- bits of a mask, and other ones of it
or_within : (a b mask : ℕ) → bit_and a mask ≡ a → bit_and b mask ≡ b → bit_and (bit_or a b) mask ≡ bit_or a b
or_within a b mask one other = same_from_bits (bit_and (bit_or a b) mask) (bit_or a b) (λ i.
    let x = sym (bit_at_and a mask i) ∙ ap (λ n. bit_at n i) one in
    let y = sym (bit_at_and b mask i) ∙ ap (λ n. bit_at n i) other in
    bit_at_and (bit_or a b) mask i
    ∙ ap (λ n. min n (bit_at mask i)) (bit_at_or a b i)
    ∙ max_within (bit_at a i) (bit_at b i) (bit_at mask i) x y
    ∙ sym (bit_at_or a b i))

pub without_known : (sr : Status) (bits : ℕ) → IsKnown sr → IsKnown (without_bits sr bits)
without_known sr bits known = and_within sr.bits (255 - bits) _ known

pub with_known : (sr : Status) (bits : ℕ) → IsKnown sr → IsKnown (status bits) → IsKnown (with_bits sr bits)
with_known sr bits known among = or_within sr.bits bits _ known among

pub of_word_known : (word : ℕ) → IsKnown (status_of word)
of_word_known word = and_assoc STATUS_BITS (word % 256) STATUS_BITS

-- the bits that a program may set are among the seven
pub settable_known : (bits : ℕ) → IsKnown (status (bit_and bits SETTABLE))
settable_known bits = and_assoc STATUS_BITS bits SETTABLE

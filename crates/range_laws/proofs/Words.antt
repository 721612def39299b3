-- What instructions make of words are words.
use Rattle.std.proofs.Common.{◌≡◌, ℕ, zero, suc, ◌+◌, ◌*◌, ◌-◌, ◌/◌, ◌%◌, ◌^◌, ◌<◌, ◌≤◌, Bool, true, false, nat_lt, nat_le, if◌then◌else◌, Some, None, bit_and, subst, arith, inl, inr}
use Rattle.std.specs.Prelude.{ℤ, pos, negsuc, IfSome}
use Rattle.std.proofs.Math.Nat.{mod-le, div-le_self}
use Rattle.std.proofs.lemmas.Bool.{cond_both, cases_lt, ltb-true, leb-false}
use Rattle.std.proofs.lemmas.Nat.{mod_below, pow_pos, pow_below, and_le_l, and_le_r, div_below, mul-le, mul-add-lt}
use Rattle.xs_base.specs.Numbers.{Word}
use Rattle.xs_base.specs.Words.{word_of, modulo, truth, shl, shr, mkmsk, is_part, zext, sign_extended, sext, reversed, bitrev, byterev, leading_zeros, clz, long, halves, add_carry, sub_borrow, mul_long, div_long, inverted}

abbrev pub IsWord : ℕ → Type 0
IsWord n = n < 2 ^ 32

pub low_word : (n : ℕ) → IsWord (n % 2 ^ 32)
low_word n = mod_below n (2 ^ 32) (omega arith)

-- a number that is at most a word
pub at_most : (n w : ℕ) → n ≤ w → IsWord w → IsWord n
at_most n w less is = omega (arith, less, is)

pub below_word : (n k : ℕ) → n < 2 ^ k → k ≤ 32 → IsWord n
below_word n k less few =
    elim (cases_lt k 32) [
      | inl low ↦ let power = pow_below k 32 low in omega (arith, less, power)
      | inr high ↦ let same : k ≡ 32 = omega (arith, few, high) in subst (λ (j : ℕ). n < 2 ^ j) same less
    ]

pub and_word : (a b : ℕ) → IsWord a → IsWord (bit_and a b)
and_word a b is = at_most (bit_and a b) a (and_le_l a b) is

pub and_short : (a b : ℕ) → b < 2 ^ 16 → IsWord (bit_and a b)
and_short a b is = let less = and_le_r a b in omega (arith, less, is)

pub truth_word : (b : Bool) → IsWord (truth b)
truth_word true = omega arith
truth_word false = omega arith

pub inverted_word : (a : ℕ) → IsWord (inverted a)
inverted_word a = omega arith

pub modulo_below : (bits : ℕ) (z : ℤ) → modulo bits z < 2 ^ bits
modulo_below bits (pos n) = mod_below n (2 ^ bits) (pow_pos bits)
modulo_below bits (negsuc n) = let some = pow_pos bits in omega (arith, some)

pub of_word : (z : ℤ) → IsWord (word_of z)
of_word z = modulo_below 32 z

-- a word or another
pub either_word : (holds : Bool) (x y : ℕ) → IsWord x → IsWord y → IsWord (if holds then x else y)
either_word true x y this that = this
either_word false x y this that = that

pub shl_word : (a n : ℕ) → IsWord (shl a n)
shl_word a n = either_word (nat_lt n 32) _ 0 (low_word _) (omega arith)

pub shr_word : (a n : ℕ) → IsWord a → IsWord (shr a n)
shr_word a n is = either_word (nat_lt n 32) _ 0 (at_most _ a (div-le_self a (2 ^ n)) is) (omega arith)

pub mkmsk_word : (n : ℕ) → IsWord (mkmsk n)
mkmsk_word n =
    cond_both (nat_lt n 32) (2 ^ n - 1) (2 ^ 32 - 1) IsWord
    (λ less. let power = pow_below n 32 (ltb-true n 32 less) in omega (arith, power)) (λ no. omega arith)

pub zext_word : (a n : ℕ) → IsWord a → IsWord (zext a n)
zext_word a n is = either_word (is_part n) _ a (at_most _ a (mod-le a (2 ^ n)) is) is

extended_word : (n low : ℕ) → low < 2 ^ n → n < 32 → IsWord (sign_extended n low)
extended_word n low less few =
    let power = pow_below n 32 few in
    either_word (nat_lt low (2 ^ (n - 1))) low (2 ^ 32 - 2 ^ n + low) (omega (arith, less, power)) (omega (arith, less, power))

part_few : (n : ℕ) → is_part n ≡ true → n < 32
part_few n is = grind (arith, is)

pub sext_word : (a n : ℕ) → IsWord a → IsWord (sext a n)
sext_word a n is =
    cond_both (is_part n) (sign_extended n (a % 2 ^ n)) a IsWord
    (λ part. extended_word n (a % 2 ^ n) (mod_below a (2 ^ n) (pow_pos n)) (part_few n part)) (λ no. is)

reversed_below : (n a : ℕ) → reversed n a < 2 ^ n
unfolding reversed
reversed_below zero a = omega arith
reversed_below (suc n) a =
    let rest = reversed_below n (a / 2) in
    let bit = mod_below a 2 (omega arith) in
    let high : a % 2 * 2 ^ n ≤ 1 * 2 ^ n = mul-le (a % 2) (2 ^ n) 1 (2 ^ n) (omega (arith, bit)) (omega arith) in
    grind (arith, rest, high)

pub bitrev_word : (a : ℕ) → IsWord (bitrev a)
bitrev_word a = reversed_below 32 a

pub byterev_word : (a : ℕ) → IsWord a → IsWord (byterev a)
byterev_word a is = omega (arith, is)

zeros_most : (n a : ℕ) → leading_zeros n a ≤ n
unfolding leading_zeros
zeros_most zero a = omega arith
zeros_most (suc n) a = by (nat_lt a (2 ^ n)) (zeros_most n a)
  where
    by : (test : Bool) → leading_zeros n a ≤ n → (if test then suc (leading_zeros n a) else 0) ≤ suc n
    by true rest = omega (arith, rest)
    by false rest = omega arith

pub clz_word : (a : ℕ) → IsWord (clz a)
clz_word a = let most = zeros_most 32 a in omega (arith, most)

abbrev pub AreTwo : Word × Word → Type 0
AreTwo both = IsWord both.0 × IsWord both.1

pub halves_words : (n : ℕ) → n < 2 ^ 64 → AreTwo (halves n)
halves_words n less = (omega (arith, less), low_word n)

pub carry_words : (a b c : ℕ) → IsWord a → IsWord b → AreTwo (add_carry a b c)
carry_words a b c one other = halves_words (a + b + c % 2) (omega (arith, one, other))

pub borrow_words : (a b c : ℕ) → AreTwo (sub_borrow a b c)
borrow_words a b c = (truth_word (nat_lt a (b + c % 2)), low_word _)

pub product_words : (a b c d : ℕ) → IsWord a → IsWord b → IsWord c → IsWord d → AreTwo (mul_long a b c d)
product_words a b c d fa fb fc fd =
    let most = mul-le a b 4294967295 4294967295 (omega (arith, fa)) (omega (arith, fb)) in
    halves_words (a * b + c + d) (omega (arith, most, fc, fd))

pub quotient_words : (high low by : ℕ) → IsWord low → IsWord by → IfSome (div_long high low by) AreTwo
quotient_words high low by fl fb =
    cond_both (nat_le by high) None (Some (long high low / by, long high low % by)) (λ found. IfSome found AreTwo) (λ no. tt)
    (λ yes.
    let less : high < by = leb-false by high yes in
    let some : 0 < by = omega (arith, less) in
    let whole : high * 2 ^ 32 + low < 2 ^ 32 * by = mul-add-lt high (2 ^ 32) low by less fl in
    (div_below (long high low) by (2 ^ 32) some whole, at_most _ by (let rest = mod_below (long high low) by some in omega (arith, rest)) fb))

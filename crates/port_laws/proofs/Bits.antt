-- Numbers of bits, and the bits of a shift register.
use Rattle.std.proofs.Common.{ℕ, zero, suc, ◌≡◌, ◌+◌, ◌-◌, ◌/◌, ◌%◌, ◌^◌, ◌<◌, ◌≤◌, List, [], ◌∷◌, ◌++◌, length, take, drop, refl, ap, sym, subst, ◌∙◌, inl, inr, arith}
use Rattle.std.proofs.Math.Nat.{pow-suc, pow-le-pow_right}
use Rattle.std.proofs.lemmas.Bool.{cases_lt}
use Rattle.std.proofs.lemmas.Nat.{div-add-mod'}
use Rattle.std.proofs.lemmas.List.{length-take, length-drop, length-append}
use Rattle.xs_model.specs.Bits.{bits_of, value_of, last_bits}
use Rattle.port_laws.specs.Facts.{Multiple, AreBeats, AreBits, IsShift}

-- ---- Multiples

pub multiple_0 : (w : ℕ) → Multiple w 0
multiple_0 w = (0, omega arith)

pub multiple_1 : (w : ℕ) → Multiple w w
multiple_1 w = (1, omega arith)

pub multiple_more : (w n : ℕ) → Multiple w n → Multiple w (n + w)
multiple_more w n (k, e) = (suc k, omega (arith, e))

pub multiple_less : (w n : ℕ) → Multiple w n → Multiple w (n - w)
multiple_less w n (zero, e) = (0, omega (arith, e))
multiple_less w n (suc k, e) = (k, omega (arith, e))

-- where there is one bit there is a beat
pub multiple_some : (w n : ℕ) → Multiple w n → 1 ≤ n → w ≤ n
multiple_some w n (zero, e) some = omega (arith, e, some)
multiple_some w n (suc k, e) some = omega (arith, e)

pub multiple_mod : (w n : ℕ) → n % w ≡ 0 → Multiple w n
multiple_mod w n none = (n / w, omega (arith, none, div-add-mod' n w))

pub beats_mod : (w most n : ℕ) → n % w ≡ 0 → 1 ≤ n → n ≤ most → AreBeats w most n
beats_mod w most n none some few =
    let whole = multiple_mod w n none in
    record { whole = whole; least = multiple_some w n whole some; most = few }

-- ---- Bits

pub bits_drop : (n : ℕ) (bits : List ℕ) → AreBits bits → AreBits (drop n bits)
bits_drop zero bits are = are
bits_drop (suc n) [] are = tt
bits_drop (suc n) (bit ∷ bits) are = bits_drop n bits are.1

pub bits_take : (n : ℕ) (bits : List ℕ) → AreBits bits → AreBits (take n bits)
bits_take zero bits are = tt
bits_take (suc n) [] are = tt
bits_take (suc n) (bit ∷ bits) are = (are.0, bits_take n bits are.1)

pub bits_append : (bits others : List ℕ) → AreBits bits → AreBits others → AreBits (bits ++ others)
bits_append [] others are too = too
bits_append (bit ∷ bits) others are too = (are.0, bits_append bits others are.1 too)

pub bits_are : (n v : ℕ) → AreBits (bits_of n v)
unfolding bits_of
bits_are zero v = tt
bits_are (suc n) v = (omega arith, bits_are n (v / 2))

length_bits : (n v : ℕ) → length (bits_of n v) ≡ n
unfolding bits_of
length_bits zero v = refl
length_bits (suc n) v = ap suc (length_bits n (v / 2))

pub value_fits : (bits : List ℕ) → AreBits bits → value_of bits < 2 ^ length bits
unfolding value_of
value_fits [] are = omega arith
value_fits (bit ∷ bits) are = omega (arith, are.0, value_fits bits are.1, pow-suc 2 (length bits))

-- ---- The shift register

pub no_shift : (w most : ℕ) → IsShift w most []
no_shift w most = record { whole = multiple_0 w; most = omega arith; bits = tt }

-- a beat leaves
pub shift_out : (w most : ℕ) (shift : List ℕ) → IsShift w most shift → IsShift w most (drop w shift)
shift_out w most shift is = record {
  whole = subst (Multiple w) (sym (length-drop w shift)) (multiple_less w (length shift) is.whole);
  most = omega (arith, length-drop w shift, is.most);
  bits = bits_drop w shift is.bits;
}

pub beat_fits : (w : ℕ) (shift : List ℕ) → AreBits shift → value_of (take w shift) < 2 ^ w
beat_fits w shift are =
    let few : length (take w shift) ≤ w = omega (arith, length-take w shift) in
    omega (arith, value_fits (take w shift) (bits_take w shift are), pow-le-pow_right {n = 2} (omega arith) few)

-- a transfer that begins
pub shift_of : (w most bits value : ℕ) → AreBeats w most bits → IsShift w most (bits_of bits value)
shift_of w most bits value are = record {
  whole = subst (Multiple w) (sym (length_bits bits value)) are.whole;
  most = omega (arith, length_bits bits value, are.most);
  bits = bits_are bits value;
}

-- the last of some bits, as many as a transfer has
last_whole : (w most n : ℕ) → Multiple w most → Multiple w n → n ≤ most + w → Multiple w (n - (n - most))
last_whole w most n whole all few =
    elim (cases_lt most n) [
      | inl more ↦ subst (Multiple w) (omega (arith, more)) whole
      | inr less ↦ subst (Multiple w) (omega (arith, less)) all
    ]

-- a beat comes in
pub shift_in : (w most level : ℕ) (shift : List ℕ) → Multiple w most → IsShift w most shift → IsShift w most (last_bits most (shift ++ bits_of w level))
shift_in w most level shift whole is =
    let all = shift ++ bits_of w level in
    let many : length all ≡ length shift + w = length-append shift (bits_of w level) ∙ ap (λ n. length shift + n) (length_bits w level) in
    let left : length (last_bits most all) ≡ length all - (length all - most) = length-drop (length all - most) all in
    let all_whole : Multiple w (length all) = subst (Multiple w) (sym many) (multiple_more w (length shift) is.whole) in
    record {
      whole = subst (Multiple w) (sym left) (last_whole w most (length all) whole all_whole (omega (arith, many, is.most)));
      most = omega (arith, left);
      bits = bits_drop (length all - most) all (bits_append shift (bits_of w level) is.bits (bits_are w level));
    }

-- and is there
pub shift_in_some : (w most level : ℕ) (shift : List ℕ) → w ≤ most → w ≤ length (last_bits most (shift ++ bits_of w level))
shift_in_some w most level shift fits =
    let all = shift ++ bits_of w level in
    let many : length all ≡ length shift + w = length-append shift (bits_of w level) ∙ ap (λ n. length shift + n) (length_bits w level) in
    omega (arith, fits, many, length-drop (length all - most) all)

-- Words: whole numbers below 2 ^ 32, with arithmetic modulo 2 ^ 32.
use Rattle.std.specs.Prelude.{ℕ, zero, suc, ◌+◌, ◌-◌, ◌*◌, ◌/◌, ◌%◌, ◌^◌, min, Bool, ◌&&◌, nat_le, nat_lt, if◌then◌else◌, Option, Some, None, ℤ, pos, negsuc}
use Rattle.std.specs.Int.{int_shr}
use Rattle.xs_base.specs.Numbers.{Word}

abbrev pub word_sum : Word → Word → Word
word_sum a b = (a + b) % 2 ^ 32

abbrev pub word_difference : Word → Word → Word
word_difference a b = (a + (2 ^ 32 - b)) % 2 ^ 32

abbrev pub word_product : Word → Word → Word
word_product a b = a * b % 2 ^ 32

-- all bits inverted
abbrev pub inverted : Word → Word
inverted a = 2 ^ 32 - 1 - a

-- 1 for true, 0 for false
abbrev pub truth : Bool → Word
truth b = if b then 1 else 0

-- ---- Signed words

-- a word read as a signed number: 2 ^ 32 is taken off one of 2 ^ 31 and more. `negsuc n` is -(n + 1).
abbrev pub signed : Word → ℤ
signed a = if nat_lt a (2 ^ 31) then pos a else negsuc (2 ^ 32 - 1 - a)

-- a whole number modulo 2 ^ bits
abbrev pub modulo : ℕ → ℤ → ℕ
modulo bits (pos n) = n % 2 ^ bits
modulo bits (negsuc n) = 2 ^ bits - 1 - n % 2 ^ bits

-- a whole number as a word
abbrev pub word_of : ℤ → Word
word_of z = modulo 32 z

-- ---- Shifts by n bits, which may be any word

abbrev pub shl : Word → Word → Word
shl a n = if nat_lt n 32 then a * 2 ^ n % 2 ^ 32 else 0

abbrev pub shr : Word → Word → Word
shr a n = if nat_lt n 32 then a / 2 ^ n else 0

-- the signed number divided by 2 ^ n and rounded down: from 32 on that is 0 or -1
abbrev pub ashr : Word → Word → Word
ashr a n = word_of (int_shr (signed a) (min n 32))

-- ---- The low n bits

-- the low n bits set, all of them from 32 on
abbrev pub mkmsk : Word → Word
mkmsk n = if nat_lt n 32 then 2 ^ n - 1 else 2 ^ 32 - 1

-- whether n bits are a part of a word that can be extended
abbrev pub is_part : Word → Bool
is_part n = nat_lt 0 n && nat_lt n 32

-- the low n bits, extended by zeros
abbrev pub zext : Word → Word → Word
zext a n = if is_part n then a % 2 ^ n else a

-- a number of n bits, extended by its highest one
abbrev pub sign_extended : ℕ → Word → Word
sign_extended n low = if nat_lt low (2 ^ (n - 1)) then low else 2 ^ 32 - 2 ^ n + low

-- the low n bits, extended by their sign
abbrev pub sext : Word → Word → Word
sext a n = if is_part n then sign_extended n (a % 2 ^ n) else a

-- ---- The order of bits and bytes

-- the low n bits of a, the lowest of them highest
unfoldable pub reversed : ℕ → Word → Word
reversed zero a = 0
reversed (suc n) a = a % 2 * 2 ^ n + reversed n (a / 2)

abbrev pub bitrev : Word → Word
bitrev a = reversed 32 a

abbrev pub byterev : Word → Word
byterev a = a % 256 * 2 ^ 24 + a / 2 ^ 8 % 256 * 2 ^ 16 + a / 2 ^ 16 % 256 * 2 ^ 8 + a / 2 ^ 24

-- how many zeros lead the low n bits of a, where a has no others
unfoldable pub leading_zeros : ℕ → Word → ℕ
leading_zeros zero a = 0
leading_zeros (suc n) a = if nat_lt a (2 ^ n) then suc (leading_zeros n a) else 0

abbrev pub clz : Word → Word
clz a = leading_zeros 32 a

-- ---- Two words: the high and the low half of a number below 2 ^ 64

abbrev pub long : Word → Word → ℕ
long high low = high * 2 ^ 32 + low

abbrev pub halves : ℕ → Word × Word
halves n = (n / 2 ^ 32, n % 2 ^ 32)

-- the carry, 1 or 0, and the word of a sum: of c the lowest bit is added
abbrev pub add_carry : Word → Word → Word → Word × Word
add_carry a b c = halves (a + b + c % 2)

-- the borrow, 1 or 0, and the word of a difference: of c the lowest bit is taken off
abbrev pub sub_borrow : Word → Word → Word → Word × Word
sub_borrow a b c = let less = b + c % 2 in (truth (nat_lt a less), word_difference a less)

abbrev pub mul_long : Word → Word → Word → Word → Word × Word
mul_long a b c d = halves (a * b + c + d)

-- quotient and remainder, where the quotient is a word
abbrev pub div_long : Word → Word → Word → Option (Word × Word)
div_long high low by = if nat_le by high then None else Some (long high low / by, long high low % by)

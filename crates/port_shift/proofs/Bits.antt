-- Numbers and their bits: what is taken, dropped and appended.
use Rattle.std.proofs.Common.{ℕ, zero, suc, ◌≡◌, ◌+◌, ◌-◌, ◌*◌, ◌/◌, ◌%◌, ◌^◌, ◌<◌, ◌≤◌, List, ◌∷◌, ◌++◌, length, take, drop, refl, ap, sym, subst, ◌∙◌, inl, inr, arith}
use Rattle.std.proofs.Math.Nat.{pow-suc, pow-le-pow_right}
use Rattle.std.proofs.lemmas.Bool.{cases_lt}
use Rattle.std.proofs.lemmas.Nat.{pow_pos, pow-add, shr-shr, shr_split, shr_below, pow_below, shl_whole, mod-pow-add, mul-add-lt}
use Rattle.port_shift.specs.Held.{ShiftRec}
use Rattle.xs_model.specs.Bits.{bits_of, value_of, last_bits}

pub length_bits : (n v : ℕ) → length (bits_of n v) ≡ n
unfolding bits_of
length_bits zero v = refl
length_bits (suc n) v = ap suc (length_bits n (v / 2))

-- half of a number below a power of 2
half_below : (n v : ℕ) → v < 2 ^ suc n → v / 2 < 2 ^ n
half_below n v h = omega (arith, h, pow-suc 2 n)

pub value_bits : (n v : ℕ) → v < 2 ^ n → value_of (bits_of n v) ≡ v
unfolding bits_of value_of
value_bits zero v h = omega (arith, h)
value_bits (suc n) v h =
    let rest : value_of (bits_of n (v / 2)) ≡ v / 2 = value_bits n (v / 2) (half_below n v h) in
    omega (arith, rest)

pub drop_bits : (k n v : ℕ) → drop k (bits_of n v) ≡ bits_of (n - k) (v / 2 ^ k)
unfolding bits_of
drop_bits zero n v =
    let same : n ≡ n - 0 = omega arith in
    let all : v ≡ v / 1 = omega arith in
    ap (λ i. bits_of i v) same ∙ ap (bits_of (n - 0)) all
drop_bits (suc k) zero v =
    let none : 0 ≡ 0 - suc k = omega arith in
    ap (λ i. bits_of i (v / 2 ^ suc k)) none
drop_bits (suc k) (suc n) v =
    let fewer : n - k ≡ suc n - suc k = omega arith in
    let all : v / 2 / 2 ^ k ≡ v / 2 ^ suc k = shr-shr v 1 k ∙ ap (λ i. v / 2 ^ i) (omega arith) in
    drop_bits k n (v / 2) ∙ ap (bits_of (n - k)) all ∙ ap (λ i. bits_of i (v / 2 ^ suc k)) fewer

pub take_bits : (k n v : ℕ) → v < 2 ^ n → value_of (take k (bits_of n v)) ≡ v % 2 ^ k
unfolding bits_of value_of
take_bits zero n v h = omega arith
take_bits (suc k) zero v h = omega (arith, h, pow_pos (suc k))
take_bits (suc k) (suc n) v h =
    let rest : value_of (take k (bits_of n (v / 2))) ≡ v / 2 % 2 ^ k = take_bits k n (v / 2) (half_below n v h) in
    let next : v % 2 ^ suc k ≡ v % 2 ^ (k + 1) = ap (λ i. v % 2 ^ i) (omega arith) in
    omega (arith, rest, next, mod-pow-add v k 1)

pub append_bits : (n m a b : ℕ) → a < 2 ^ n → bits_of n a ++ bits_of m b ≡ bits_of (n + m) (a + b * 2 ^ n)
unfolding bits_of
append_bits zero m a b h =
    let same : m ≡ 0 + m = omega arith in
    let all : b ≡ a + b * 1 = omega (arith, h) in
    ap (λ i. bits_of i b) same ∙ ap (bits_of (0 + m)) all
append_bits (suc n) m a b h =
    let one_more : suc (n + m) ≡ suc n + m = omega arith in
    let above : b * 2 ^ suc n ≡ 2 * (b * 2 ^ n) = omega (arith, ap (λ t. b * t) (pow-suc 2 n)) in
    let low : a % 2 ≡ (a + b * 2 ^ suc n) % 2 = omega (arith, above) in
    let high : a / 2 + b * 2 ^ n ≡ (a + b * 2 ^ suc n) / 2 = omega (arith, above) in
    ap (◌∷◌ (a % 2)) (append_bits n m (a / 2) b (half_below n a h))
    ∙ ap (λ bit. bit ∷ bits_of (n + m) (a / 2 + b * 2 ^ n)) low
    ∙ ap (λ rest. (a + b * 2 ^ suc n) % 2 ∷ bits_of (n + m) rest) high
    ∙ ap (λ i. bits_of i (a + b * 2 ^ suc n)) one_more

-- ---- A beat that leaves

-- what is left fits fewer bits
pub left_fits : (width count word k : ℕ) → word < 2 ^ count → k ≡ count - width → word / 2 ^ width < 2 ^ k
left_fits width count word k fits e =
    elim (cases_lt count width) [
      | inl less ↦
          let small : word < 2 ^ (k + width) = omega (arith, fits, pow_below count (k + width) (omega (arith, e, less))) in
          shr_below word k width small
      | inr more ↦
          let same : count ≡ k + width = omega (arith, e, more) in
          let small : word < 2 ^ (k + width) = subst (λ i. word < 2 ^ i) same fits in
          shr_below word k width small
    ]

-- and the beat is what is over
pub beat : (word width : ℕ) → word < 2 ^ 32 → word - word / 2 ^ width * 2 ^ width % 2 ^ 64 ≡ word % 2 ^ width
beat word width fits = omega (arith, fits, shr_split word width)

-- ---- A beat that comes in

-- it stands above what was there
pub joined_fits : (count width a b : ℕ) → a < 2 ^ count → b < 2 ^ width → a + b * 2 ^ count < 2 ^ (count + width)
joined_fits count width a b low high =
    omega (arith, mul-add-lt b (2 ^ count) a (2 ^ width) high low, pow-add 2 count width)

pub last_after : (count width a b tw dropped : ℕ) → a < 2 ^ count → dropped ≡ count + width - tw → bits_of (count + width - dropped) ((a + b * 2 ^ count) / 2 ^ dropped) ≡ last_bits tw (bits_of count a ++ bits_of width b)
last_after count width a b tw dropped fits e =
    let whole : bits_of count a ++ bits_of width b ≡ bits_of (count + width) (a + b * 2 ^ count) = append_bits count width a b fits in
    let all : length (bits_of count a ++ bits_of width b) ≡ count + width = ap length whole ∙ length_bits _ _ in
    sym (ap (λ bits. drop dropped bits) whole ∙ drop_bits dropped _ _)
    ∙ ap (λ k. drop k (bits_of count a ++ bits_of width b)) (omega (arith, e, all))

-- the sum of the two is not cut off by 64 bits
pub joined : (count width a b : ℕ) → count ≤ 32 → width ≤ 32 → b < 2 ^ width → a + b * 2 ^ count % 2 ^ 64 ≡ a + b * 2 ^ count
joined count width a b few narrow high = ap (λ n. a + n) (shl_whole b width count 64 high (omega (arith, few, narrow)))

pub kept_fits : (count width a b tw dropped : ℕ) → a < 2 ^ count → b < 2 ^ width → dropped ≡ count + width - tw → (a + b * 2 ^ count) / 2 ^ dropped < 2 ^ (count + width - dropped)
kept_fits count width a b tw dropped low high e =
    let same : count + width ≡ count + width - dropped + dropped = omega (arith, e) in
    shr_below (a + b * 2 ^ count) (count + width - dropped) dropped (subst (λ i. a + b * 2 ^ count < 2 ^ i) same (joined_fits count width a b low high))

-- a number of at most 32 bits is a word
pub is_word : (n word : ℕ) → n ≤ 32 → word < 2 ^ n → word < 2 ^ 32
is_word n word few fits = omega (arith, fits, pow-le-pow_right {n = 2} (omega arith) few)

-- registers of one width that hold the same bits are the same
pub of_bits : (width : ℕ) (bits others : List ℕ) → bits ≡ others → ◌≡◌ {A = ShiftRec} (record { width = width; bits = bits }) (record { width = width; bits = others })
of_bits width bits others e = ap (λ held. record { width = width; bits = held }) e

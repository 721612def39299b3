use Rattle.std.proofs.Common.{ℕ, suc, ◌≡◌, ◌+◌, ◌-◌, ◌*◌, ◌/◌, ◌%◌, ◌^◌, ◌<◌, ◌≤◌, ◌∙◌, ⊎_elim, subst, sym, ap, arith}
use Rattle.std.proofs.Math.Nat.{add-mul, one-mul, mul-mod_left, mul-div_left, le-mul_of_pos_right, mul-lt-mul_of_pos_right, mul-le-mul_right, pow-suc, min-eq_left}
use Rattle.std.proofs.lemmas.Nat.{pow-add, shl-shr, mod-pow-add, div-mul-add, mod_below, pow_pos}
use Rattle.std.proofs.lemmas.Bool.{cases_lt, lt-ltb, le-ltb}
use Rattle.std.proofs.lemmas.Bool.Decides.{nat_tests}
use Rattle.std.specs.Int.Signed.{shr_z}
use Rattle.xs_base.specs.Words.{ashr, sext, sign_extended, signed, word_of}
use Rattle.xs_base.proofs.words.sext.Goals as goal

-- Of a word that is shifted left by all but n bits, the low n are left.
moved : (n s a : ℕ) → a * 2 ^ s % 2 ^ (n + s) ≡ a % 2 ^ n * 2 ^ s
moved n s a = rw (mod-pow-add (a * 2 ^ s) n s, shl-shr a s, mul-mod_left a (2 ^ s)) (omega arith)

-- With p in place of 2 ^ s, and h for half of the numbers of n bits: a number below h is moved back as it is,
plain : (p h low : ℕ) → 0 < p → h * p ≡ 2 ^ 31 → low < h → word_of (shr_z (signed (low * p)) p) ≡ low
plain p h low some whole below =
    let under : low * p < 2 ^ 31 = subst (λ x. low * p < x) whole (mul-lt-mul_of_pos_right below some) in
    let least : low ≤ low * p = le-mul_of_pos_right low some in
    rw (lt-ltb (low * p) (2 ^ 31) under, mul-div_left low some) (omega arith)

-- and one from h on with the words above.
negative : (p h low rest : ℕ) → 0 < p → h * p ≡ 2 ^ 31 → h ≤ low → rest + 1 + low ≡ h + h → word_of (shr_z (signed (low * p)) p) ≡ 2 ^ 32 - (h + h) + low
negative p h low rest some whole above rests =
    let over : 2 ^ 31 ≤ low * p = subst (λ x. x ≤ low * p) whole (mul-le-mul_right p above) in
    let all : (rest + 1 + low) * p ≡ (h + h) * p = ap (λ x. x * p) rests in
    let least : h ≤ h * p = le-mul_of_pos_right h some in
    let parts : 2 ^ 32 - 1 - low * p ≡ rest * p + (p - 1) = omega (arith, simp (add-mul, one-mul) at all) in
    let back : (2 ^ 32 - 1 - low * p) / p ≡ rest = ap (λ x. x / p) parts ∙ div-mul-add rest p (p - 1) (omega arith) in
    rw (le-ltb (low * p) (2 ^ 31) over, back) (omega arith)

-- n bits at a word's upper end, and the same at its lower end, extended by their sign.
moved_back : (n s low : ℕ) → 0 < n → n + s ≡ 32 → low < 2 ^ n → ashr (low * 2 ^ s) s ≡ sign_extended n low
moved_back n s low some whole below =
    let within : s ≤ 32 = omega arith in
    let others : n - 1 + s ≡ 31 = omega arith in
    let half : 2 ^ (n - 1) * 2 ^ s ≡ 2 ^ 31 = sym (pow-add 2 (n - 1) s) ∙ ap (λ x. 2 ^ x) others in
    let next : suc (n - 1) ≡ n = omega arith in
    let twice : 2 ^ n ≡ 2 ^ (n - 1) * 2 = subst (λ x. 2 ^ x ≡ 2 ^ (n - 1) * 2) next (pow-suc 2 (n - 1)) in
    rw (min-eq_left within) (⊎_elim
    (λ small. plain (2 ^ s) (2 ^ (n - 1)) low (pow_pos s) half small ∙ grind (arith, nat_tests))
    (λ large. negative (2 ^ s) (2 ^ (n - 1)) low (2 ^ n - 1 - low) (pow_pos s) half large (omega arith) ∙ grind (arith, nat_tests))
    (cases_lt low (2 ^ (n - 1))))

-- what the two shifts make of a word
extended : (a n : ℕ) → 0 < n → n < 32 → ashr (a * 2 ^ (32 - n) % 2 ^ 32) (32 - n) ≡ sext a n
extended a n some part =
    let whole : n + (32 - n) ≡ 32 = omega arith in
    let lifted : a * 2 ^ (32 - n) % 2 ^ 32 ≡ a % 2 ^ n * 2 ^ (32 - n) = subst (λ x. a * 2 ^ (32 - n) % 2 ^ x ≡ a % 2 ^ n * 2 ^ (32 - n)) whole (moved n (32 - n) a) in
    ap (λ x. ashr x (32 - n)) lifted ∙ moved_back n (32 - n) (a % 2 ^ n) some whole (mod_below a _ (pow_pos n)) ∙ rw (lt-ltb 0 n some, lt-ltb n 32 part)

pub returns-then-n-lt32 : goal.returns-then-n-lt32
returns-then-n-lt32 c = record { value = c.ashr.ensures.value ∙ extended c.args.a c.args.n c.if-n-gt0.true c.if-n-lt32.true }

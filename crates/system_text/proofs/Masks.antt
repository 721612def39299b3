-- The numbers that pass a test, as a mask.
use Rattle.std.proofs.Common.{◌≡◌, ℕ, zero, suc, ◌+◌, ◌*◌, ◌%◌, ◌^◌, ◌<◌, ◌≤◌, Bool, true, false, bit_or, nat_lt, refl, ap, sym, ◌∙◌, subst, inl, inr, arith}
use Rattle.std.specs.Prelude.{◌≢◌, if◌then◌else◌}
use Rattle.std.specs.Int.{bit_at}
use Rattle.std.proofs.lemmas.Bool.{cases_eq}
use Rattle.std.proofs.lemmas.Bool.Decides.{nat_tests}
use Rattle.std.proofs.lemmas.Nat.{or_shifted, or_comm, one_shl}
use Rattle.std.proofs.lemmas.Nat.Bits.{bit_at-zero, bit_at_cat_low, bit_at_above}
use Rattle.system_model.specs.System.{mask_where}

pub mask_where-zero : (test : ℕ → Bool) → mask_where test zero ≡ 0
unfolding mask_where
mask_where-zero test = refl

mask_where-suc : (test : ℕ → Bool) (k : ℕ) → mask_where test (suc k) ≡ (if test k then 2 ^ k else 0) + mask_where test k
unfolding mask_where
mask_where-suc test k = refl

-- one number more, which passes the test or not
with_next : (test : ℕ → Bool) (k : ℕ) → test k ≡ true → mask_where test (suc k) ≡ 1 * 2 ^ k + mask_where test k
with_next test k e = mask_where-suc test k ∙ rw e (omega arith)

without_next : (test : ℕ → Bool) (k : ℕ) → test k ≡ false → mask_where test (suc k) ≡ mask_where test k
without_next test k e = mask_where-suc test k ∙ rw e (omega arith)

pow-suc : (k : ℕ) → 2 ^ suc k ≡ 2 ^ k + 2 ^ k
pow-suc k = omega arith

below_next : (test : ℕ → Bool) (k : ℕ) (b : Bool) → test k ≡ b → mask_where test k < 2 ^ k → mask_where test (suc k) < 2 ^ suc k
below_next test k true e h = omega (arith, with_next test k e, pow-suc k, h)
below_next test k false e h = omega (arith, without_next test k e, pow-suc k, h)

below_pow : (test : ℕ → Bool) (k : ℕ) → mask_where test k < 2 ^ k
below_pow test zero = omega (arith, mask_where-zero test)
below_pow test (suc k) = below_next test k (test k) refl (below_pow test k)

none_above : (test : ℕ → Bool) (k i : ℕ) → k < i → bit_at (mask_where test (suc k)) i ≡ 1 → ⊥
none_above test k i h e =
    omega (arith, bit_at_above (mask_where test (suc k)) (suc k) i (below_pow test (suc k)) (omega (arith, h)), e)

less : (test : ℕ → Bool) (k i : ℕ) (b : Bool) → nat_lt i k ≡ b → i ≢ k → bit_at (mask_where test (suc k)) i ≡ 1 → i < k
less test k i true f ne e = grind (arith, nat_tests)
less test k i false f ne e =
    let least : k ≤ i = grind (arith, nat_tests) in
    absurd (none_above test k i (omega (arith, least, ne)) e)

passes_next : (test : ℕ → Bool) (k i : ℕ) (b : Bool) → test k ≡ b → bit_at (mask_where test (suc k)) i ≡ 1 → (bit_at (mask_where test k) i ≡ 1 → test i ≡ true) → test i ≡ true
passes_next test k i false t e h = h (sym (ap (λ m. bit_at m i) (without_next test k t)) ∙ e)
passes_next test k i true t e h = elim (cases_eq i k) [
  | inl same ↦ subst (λ j. test j ≡ true) (sym same) t
  | inr ne ↦ h (sym (bit_at_cat_low 1 k (mask_where test k) i (less test k i (nat_lt i k) refl ne e)) ∙ (sym (ap (λ m. bit_at m i) (with_next test k t)) ∙ e))
]

-- a bit that is set is that of a number that passes the test
pub passes : (test : ℕ → Bool) (n i : ℕ) → bit_at (mask_where test n) i ≡ 1 → test i ≡ true
passes test zero i e = absurd (omega (arith, sym (ap (λ m. bit_at m i) (mask_where-zero test)) ∙ e, bit_at-zero i))
passes test (suc k) i e = passes_next test k i (test k) refl e (passes test k i)

-- The mask of the numbers below k becomes that of the numbers below k + 1.

with_bit : (test : ℕ → Bool) (k : ℕ) → test k ≡ true → bit_or (mask_where test k) (1 * 2 ^ k) ≡ mask_where test (suc k)
with_bit test k t =
    or_comm (mask_where test k) (1 * 2 ^ k) ∙ (or_shifted 1 k (mask_where test k) (below_pow test k) ∙ sym (with_next test k t))

pub next_set : (test : ℕ → Bool) (k mask now : ℕ) → k < 8 → mask ≡ mask_where test k → test k ≡ true → now ≡ bit_or mask (1 * 2 ^ k % 256) → now ≡ mask_where test (k + 1)
next_set test k mask now h is t e =
    let bit : 1 * 2 ^ k % 256 ≡ 1 * 2 ^ k = one_shl k 8 h ∙ omega arith in
    let next : suc k ≡ k + 1 = omega arith in
    e ∙ (ap (bit_or mask) bit ∙ (ap (λ m. bit_or m (1 * 2 ^ k)) is ∙ (with_bit test k t ∙ ap (mask_where test) next)))

pub next_clear : (test : ℕ → Bool) (k mask now : ℕ) → mask ≡ mask_where test k → test k ≡ false → now ≡ mask → now ≡ mask_where test (k + 1)
next_clear test k mask now is t e =
    let next : suc k ≡ k + 1 = omega arith in
    e ∙ (is ∙ (sym (without_next test k t) ∙ ap (mask_where test) next))

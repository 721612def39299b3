-- One bit of a mask, of whatever width, is written, and the others stay.
use Rattle.std.proofs.Common.{ℕ, ◌≡◌, ◌≢◌, ◌*◌, ◌^◌, ◌%◌, ◌<◌, Bool, true, false, List, length, get_or, set, cond, eqb, bit_or, bit_and, sym, ap, ◌∙◌, inl, inr, arith}
use Rattle.std.specs.Int.{Width, bit_not, trailing_zeros}
use Rattle.std.proofs.lemmas.Bool.{eq-eqb, ne_eqb, cond-true, cond-false, cases_eq, cases_lt, false≢true}
use Rattle.std.proofs.lemmas.Nat.{and_le_l}
use Rattle.std.proofs.lemmas.Nat.Bits.{bit_at_set_same, bit_at_set_other, bit_at_clear_same, bit_at_clear_other, bit_at-trailing_zeros}
use Rattle.std.proofs.lemmas.List.{get_or-set_same, get_or-set_other}
use mir.Val.{bits}
use Rattle.xs_model.specs.Masks.{in_mask}

module _ (w : Width) (mask n : ℕ) (within : n < bits w) where
  pub set-same : in_mask (bit_or mask (1 * 2 ^ n % 2 ^ bits w)) n ≡ true
  set-same = ap (λ b. eqb b 1) (bit_at_set_same w mask n within)

  pub set-other : (k : ℕ) → k ≢ n → in_mask (bit_or mask (1 * 2 ^ n % 2 ^ bits w)) k ≡ in_mask mask k
  set-other k other = ap (λ b. eqb b 1) (bit_at_set_other w mask n within k other)

  clear-same : in_mask (bit_and mask (bit_not w (1 * 2 ^ n % 2 ^ bits w))) n ≡ false
  clear-same = ap (λ b. eqb b 1) (bit_at_clear_same w mask n within)

  pub clear-other : (k : ℕ) → k < bits w → k ≢ n → in_mask (bit_and mask (bit_not w (1 * 2 ^ n % 2 ^ bits w))) k ≡ in_mask mask k
  clear-other k h other = ap (λ b. eqb b 1) (bit_at_clear_other w mask n within k h other)

  -- to clear a bit that is set makes the mask less
  pub clear-less : in_mask mask n ≡ true → bit_and mask (bit_not w (1 * 2 ^ n % 2 ^ bits w)) < mask
  clear-less its = elim (cases_lt (bit_and mask (bit_not w (1 * 2 ^ n % 2 ^ bits w))) mask) [
    | inl h ↦ h
    | inr h ↦
        let same : bit_and mask (bit_not w (1 * 2 ^ n % 2 ^ bits w)) ≡ mask = omega (arith, h, and_le_l mask (bit_not w (1 * 2 ^ n % 2 ^ bits w))) in
        absurd (false≢true (sym clear-same ∙ ap (λ (m : ℕ). in_mask m n) same ∙ its))
  ]

  pub written-set : (k : ℕ) → in_mask (bit_or mask (1 * 2 ^ n % 2 ^ bits w)) k ≡ cond (eqb k n) true (in_mask mask k)
  written-set k = elim (cases_eq k n) [
    | inl same ↦ ap (in_mask (bit_or mask (1 * 2 ^ n % 2 ^ bits w))) same ∙ set-same ∙ sym (cond-true (eqb k n) _ _ (eq-eqb k n same))
    | inr other ↦ set-other k other ∙ sym (cond-false (eqb k n) _ _ (ne_eqb k n other))
  ]

  pub written-clear : (k : ℕ) → k < bits w → in_mask (bit_and mask (bit_not w (1 * 2 ^ n % 2 ^ bits w))) k ≡ cond (eqb k n) false (in_mask mask k)
  written-clear k h = elim (cases_eq k n) [
    | inl same ↦ ap (in_mask (bit_and mask (bit_not w (1 * 2 ^ n % 2 ^ bits w)))) same ∙ clear-same ∙ sym (cond-true (eqb k n) _ _ (eq-eqb k n same))
    | inr other ↦ clear-other k h other ∙ sym (cond-false (eqb k n) _ _ (ne_eqb k n other))
  ]

module _ (w : Width) (mask : ℕ) (some : 0 < mask) (fits : mask < 2 ^ bits w) where
  pub lowest-is : in_mask mask (trailing_zeros w mask) ≡ true
  lowest-is = ap (λ b. eqb b 1) (bit_at-trailing_zeros w mask some fits).1

  pub lowest-least : (k : ℕ) → k < trailing_zeros w mask → in_mask mask k ≡ false
  lowest-least k h = ap (λ b. eqb b 1) ((bit_at-trailing_zeros w mask some fits).2 k h)

-- a mask that tells of each in a list whether it passes a test still does, where one changes and its bit is written
pub exact-set : {A : Type 0} (test : A → Bool) (d : A) (count mask new n : ℕ) (a : A) (list : List A) → n < length list → ((k : ℕ) → k < count → in_mask mask k ≡ test (get_or list k d)) → ((k : ℕ) → k < count → in_mask new k ≡ cond (eqb k n) (test a) (in_mask mask k)) → (k : ℕ) → k < count → in_mask new k ≡ test (get_or (set list n a) k d)
exact-set test d count mask new n a list within exact written k h = elim (cases_eq k n) [
  | inl same ↦
      written k h ∙ cond-true (eqb k n) _ _ (eq-eqb k n same) ∙ sym (ap (λ i. test (get_or (set list n a) i d)) same ∙ ap test (get_or-set_same list n a d within))
  | inr other ↦
      written k h ∙ cond-false (eqb k n) _ _ (ne_eqb k n other) ∙ exact k h ∙ sym (ap test (get_or-set_other list n k a d other))
]

-- Whether one in a list passes a test, by a mask of those that do.
use Rattle.std.proofs.Common.{ℕ, suc, ◌≡◌, ◌<◌, ◌≤◌, ◌^◌, ◌||◌, not, Bool, true, false, List, [], ◌∷◌, length, get_or, eqb, refl, sym, ap, ◌∙◌, inl, inr, arith}
use Rattle.std.specs.Int.{Width, trailing_zeros}
use Rattle.std.specs.List.{list_any}
use Rattle.std.proofs.lemmas.Bool.{cases_lt, true≢false, eq-eqb, ne_eqb}
use Rattle.std.proofs.lemmas.List.{get_or_past}
use Rattle.std.proofs.lemmas.List.Folds.{list_any_at}
use Rattle.std.proofs.lemmas.Nat.Bits.{bit_at-zero, bit_at-trailing_zeros}
use Rattle.bit_masks.proofs.OneBit.{lowest-is}
use mir.Val.{bits}
use Rattle.xs_model.specs.Masks.{in_mask}

pub none_passes : {A : Type 0} (test : A → Bool) (d : A) (list : List A) → ((k : ℕ) → k < length list → test (get_or list k d) ≡ false) → list_any test list ≡ false
none_passes test d [] none = refl
none_passes test d (a ∷ list) none =
    ap (λ (b : Bool). b || list_any test list) (none 0 (omega arith)) ∙ none_passes test d list (λ k h. none (suc k) (omega (arith, h)))

module _ {A : Type 0} (test : A → Bool) (d : A) (w : Width) (mask : ℕ) (list : List A) (fits : length list ≤ bits w) (exact : (k : ℕ) → k < bits w → in_mask mask k ≡ test (get_or list k d)) where
  none_marked : mask ≡ 0 → list_any test list ≡ false
  none_marked empty =
      none_passes test d list (λ k h. sym (exact k (omega (arith, h, fits))) ∙ ap (λ (m : ℕ). in_mask m k) empty ∙ ap (λ (b : ℕ). eqb b 1) (bit_at-zero k))

  some_marked : 0 < mask → mask < 2 ^ bits w → test d ≡ false → list_any test list ≡ true
  some_marked some word past =
      let k : ℕ = trailing_zeros w mask in
      let passes : test (get_or list k d) ≡ true = sym (exact k (bit_at-trailing_zeros w mask some word).0) ∙ lowest-is w mask some word in
      elim (cases_lt k (length list)) [
        | inl h ↦ list_any_at test list k d h passes
        | inr h ↦ absurd (true≢false (sym passes ∙ ap test (get_or_past list k d h) ∙ past))
      ]

  -- where what is past the list does not pass, one does exactly where the mask is not empty
  pub any_marked : mask < 2 ^ bits w → test d ≡ false → not (eqb mask 0) ≡ list_any test list
  any_marked word past = elim (cases_lt 0 mask) [
    | inl some ↦ ap not (ne_eqb mask 0 (λ empty. omega (arith, empty, some))) ∙ sym (some_marked some word past)
    | inr none ↦ let empty : mask ≡ 0 = omega (arith, none) in ap not (eq-eqb mask 0 empty) ∙ sym (none_marked empty)
  ]

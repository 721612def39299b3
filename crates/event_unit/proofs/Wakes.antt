-- The threads of a core are gone over one after the other.
use Rattle.std.proofs.Common.{ℕ, ◌≡◌, ◌≢◌, ◌+◌, ◌<◌, ◌≤◌, Bool, true, false, ap, sym, ◌∙◌, arith, inl, inr}
use Rattle.std.proofs.lemmas.Bool.{cases_eq}
use Rattle.std.proofs.lemmas.Nat.Bits.{bit_at-zero}
use Rattle.std.specs.Prelude.{◌==◌}
use Rattle.xs_model.specs.Masks.{in_mask}

-- so far the mask has those below k that wake
pub record AreWoken (wakes : ℕ → Bool) (k mask : ℕ) : Type 0 where
  pub below : (j : ℕ) → j < k → in_mask mask j ≡ wakes j
  pub others : (j : ℕ) → k ≤ j → in_mask mask j ≡ false

pub none_woken : (wakes : ℕ → Bool) → AreWoken wakes 0 0
none_woken wakes = record {
  below = λ j h. absurd (omega arith);
  others = λ j h. ap (λ d. d == 1) (bit_at-zero j);
}

pub one_woken : (wakes : ℕ → Bool) (k mask new : ℕ) → AreWoken wakes k mask → wakes k ≡ true → in_mask new k ≡ true → ((j : ℕ) → j ≢ k → in_mask new j ≡ in_mask mask j) → AreWoken wakes (k + 1) new
one_woken wakes k mask new so_far here added others = record {
  below = λ j h. elim (cases_eq j k) [
    | inl e ↦ ap (in_mask new) e ∙ added ∙ sym here ∙ ap wakes (sym e)
    | inr ne ↦ others j ne ∙ so_far.below j (omega (arith, h, ne))
  ];
  others = λ j h. others j (λ e. omega (arith, e, h)) ∙ so_far.others j (omega arith);
}

pub one_passed : (wakes : ℕ → Bool) (k mask : ℕ) → AreWoken wakes k mask → wakes k ≡ false → AreWoken wakes (k + 1) mask
one_passed wakes k mask so_far here = record {
  below = λ j h. elim (cases_eq j k) [
    | inl e ↦ so_far.others j (omega (arith, e)) ∙ sym here ∙ ap wakes (sym e)
    | inr ne ↦ so_far.below j (omega (arith, h, ne))
  ];
  others = λ j h. so_far.others j (omega arith);
}

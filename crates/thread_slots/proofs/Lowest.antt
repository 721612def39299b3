-- A mask without its lowest thread.
use Rattle.std.proofs.Common.{ℕ, ◌≡◌, ◌≢◌, ◌-◌, ◌<◌, Bool, true, false, not, ◌&&◌, eqb, bit_and, refl, ap, sym, ◌∙◌}
use Rattle.std.specs.Int.{w8, trailing_zeros}
use lib.Count.{count_trailing_zeros}
use Rattle.std.proofs.lemmas.Bool.{agree_below, agree_below_at, and_parts, eq-eqb, ne_eqb}
use Rattle.std.proofs.lemmas.Nat.Bits.{bit_at-trailing_zeros}
use Rattle.xs_model.specs.Masks.{in_mask}

abbrev without_lowest : ℕ → ℕ → Bool
without_lowest mask k = in_mask mask k && not (eqb k (trailing_zeros w8 mask))

-- by the table of the 256 masks
pub lowest_taken : (mask k : ℕ) → mask < 256 → k < 8 → in_mask (bit_and mask (mask - 1)) k ≡ (in_mask mask k && not (eqb k (trailing_zeros w8 mask)))
unfolding count_trailing_zeros
lowest_taken mask k fits h =
    agree_below_at (in_mask (bit_and mask (mask - 1))) (without_lowest mask) 8 k (agree_below_at (λ n. agree_below (in_mask (bit_and n (n - 1))) (without_lowest n) 8) (λ _. true) 256 mask refl fits) h

pub lowest_is_in : (mask : ℕ) → 0 < mask → mask < 256 → (trailing_zeros w8 mask < 8) × (in_mask mask (trailing_zeros w8 mask) ≡ true)
lowest_is_in mask some fits = let w = bit_at-trailing_zeros w8 mask some fits in (w.0, ap (λ b. eqb b 1) w.1)

-- ---- which threads of a mask are no longer left, once the lowest of those left is taken from them

gone_before : (able left lowest : Bool) → (able && not left) ≡ true → (able && not (left && not lowest)) ≡ true
gone_before true true lowest h = cc
gone_before true false lowest h = refl
gone_before false left lowest h = h

not_lowest : (able left : Bool) → (able && not (left && true)) ≡ true → (able && not left) ≡ true
not_lowest true true h = h
not_lowest true false h = h
not_lowest false left h = h

is_lowest : (able left : Bool) → able ≡ true → (able && not (left && false)) ≡ true
is_lowest true true h = refl
is_lowest true false h = refl
is_lowest false left h = h

abbrev pub gone : ℕ → ℕ → ℕ → Bool
gone able left k = in_mask able k && not (in_mask left k)

abbrev pub gone_next : ℕ → ℕ → ℕ → Bool
gone_next able left k = in_mask able k && not (in_mask (bit_and left (left - 1)) k)

next_is : (able left k : ℕ) → left < 256 → k < 8 → gone_next able left k ≡ (in_mask able k && not (in_mask left k && not (eqb k (trailing_zeros w8 left))))
next_is able left k fits h = ap (λ r. in_mask able k && not r) (lowest_taken left k fits h)

pub gone_stays : (able left k : ℕ) → left < 256 → k < 8 → gone able left k ≡ true → gone_next able left k ≡ true
gone_stays able left k fits h seen = next_is able left k fits h ∙ gone_before _ _ _ seen

pub gone_came : (able left k : ℕ) → left < 256 → k < 8 → gone_next able left k ≡ true → k ≢ trailing_zeros w8 left → gone able left k ≡ true
gone_came able left k fits h seen other =
    not_lowest _ _ (ap (λ e. in_mask able k && not (in_mask left k && not e)) (sym (ne_eqb k (trailing_zeros w8 left) other)) ∙ sym (next_is able left k fits h) ∙ seen)

pub lowest_goes : (able left : ℕ) → 0 < left → left < 256 → in_mask able (trailing_zeros w8 left) ≡ true → gone_next able left (trailing_zeros w8 left) ≡ true
lowest_goes able left some fits its =
    let k : ℕ = trailing_zeros w8 left in
    next_is able left k fits (lowest_is_in left some fits).0 ∙ ap (λ e. in_mask able k && not (in_mask left k && not e)) (eq-eqb k k refl) ∙ is_lowest _ _ its

pub left_before : (left k : ℕ) → left < 256 → k < 8 → in_mask (bit_and left (left - 1)) k ≡ true → in_mask left k ≡ true
left_before left k fits h its = (and_parts _ _ (sym (lowest_taken left k fits h) ∙ its)).0

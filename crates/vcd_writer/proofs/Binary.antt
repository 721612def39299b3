-- The digits of a value in binary, written from the last to the first.
use Rattle.std.proofs.Common.{◌≡◌, ℕ, zero, suc, ◌+◌, ◌-◌, ◌/◌, ◌%◌, ◌<◌, ◌≤◌, false, List, ◌∷◌, length, drop, set, refl, ap, sym, ◌∙◌, arith, eq-eqb, ne_eqb}
use Rattle.std.specs.Fmt.{digits, digits_onto, digit_glyph}
use Rattle.std.proofs.lemmas.Bool.{cond-false, cond-true}
use Rattle.std.proofs.lemmas.List.{drop-set, drop_all}
use Rattle.wave_model.specs.Lines.{binary}

-- the digits that are left of a value, at most so many, before those that are written
unfoldable pub digits_before : ℕ → ℕ → List ℕ → List ℕ
digits_before at left written = digits_onto at 2 false left written

-- before the first digit is written, with one more, with the last one, and where there is no room for more
pub none_written : (value : ℕ) (buffer : List ℕ) → length buffer ≡ 64 → digits_before 64 value (drop 64 buffer) ≡ binary value
unfolding digits digits_before
none_written value buffer size = ap (digits_onto 64 2 false value) (drop_all 64 buffer (omega (arith, size)))

-- a digit
glyph : (left : ℕ) → digit_glyph false (left % 2) ≡ 48 + left % 2
glyph left = grind arith

-- the last digit goes before those that are written
last_goes : (left at : ℕ) (buffer : List ℕ) → at < length buffer → drop at (set buffer at (48 + left % 2)) ≡ digit_glyph false (left % 2) ∷ drop (at + 1) buffer
last_goes left at buffer inside = drop-set buffer at (48 + left % 2) inside ∙ (λ i. sym (glyph left) i ∷ drop (at + 1) buffer)

-- a digit is left after this one, or none
step : (n left : ℕ) (written : List ℕ) → (left / 2 ≡ 0 → ⊥) → digits_before (suc n) left written ≡ digits_before n (left / 2) (digit_glyph false (left % 2) ∷ written)
unfolding digits_before
step n left written more = cond-false _ _ _ (ne_eqb _ 0 more)

end : (n left : ℕ) (written : List ℕ) → left / 2 ≡ 0 → digits_before (suc n) left written ≡ digit_glyph false (left % 2) ∷ written
unfolding digits_before
end n left written none = cond-true _ _ _ (eq-eqb _ 0 none)

pub one_written : (left at : ℕ) (buffer : List ℕ) → 0 < at → at ≤ length buffer → (left / 2 ≡ 0 → ⊥)
    → digits_before (at - 1) (left / 2) (drop (at - 1) (set buffer (at - 1) (48 + left % 2))) ≡ digits_before at left (drop at buffer)
one_written left at buffer some inside more =
    let same : suc (at - 1) ≡ at = omega arith in
    let also : at - 1 + 1 ≡ at = omega arith in
    ap (digits_before (at - 1) (left / 2)) (last_goes left (at - 1) buffer (omega arith))
    ∙ sym (step (at - 1) left (drop (at - 1 + 1) buffer) more)
    ∙ (λ i. digits_before (same i) left (drop (also i) buffer))

pub all_written : (left at : ℕ) (buffer : List ℕ) → 0 < at → at ≤ length buffer → left / 2 ≡ 0
    → drop (at - 1) (set buffer (at - 1) (48 + left % 2)) ≡ digits_before at left (drop at buffer)
all_written left at buffer some inside none =
    let same : suc (at - 1) ≡ at = omega arith in
    let also : at - 1 + 1 ≡ at = omega arith in
    last_goes left (at - 1) buffer (omega arith)
    ∙ sym (end (at - 1) left (drop (at - 1 + 1) buffer) none)
    ∙ (λ i. digits_before (same i) left (drop (also i) buffer))

pub none_left : (left at : ℕ) (written : List ℕ) → at ≤ 0 → written ≡ digits_before at left written
unfolding digits_before
none_left left zero written h = refl
none_left left (suc at) written h = absurd (omega arith)

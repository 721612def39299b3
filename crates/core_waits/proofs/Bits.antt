-- Masks, bit by bit.
use Rattle.std.proofs.Common.{◌≡◌, ℕ, zero, suc, ◌+◌, ◌<◌, true, false, min, max, bit_and, bit_or, None, refl, ap, ap₂, sym, ◌∙◌, arith}
use Rattle.std.specs.Prelude.{◌&&◌, ◌||◌, not, ◌==◌}
use Rattle.std.specs.Int.{bit_at}
use Rattle.std.proofs.lemmas.Nat.{and_assoc}
use Rattle.std.proofs.lemmas.Nat.Bits.{bit_at_and, bit_at_or, bit_at-lt, bit_at-zero}
use Rattle.xs_model.specs.declared.status.Status.{Status}
use Rattle.xs_model.specs.declared.status.TheConstants.{EEBLE, IEBLE}
use Rattle.xs_model.specs.Masks.{in_mask}
use Rattle.xs_model.specs.Status.{has_bits}
use Rattle.xs_model.specs.Record.{EnabledRec}
use Rattle.xs_model.specs.Choices.{ReadyRec, choice_by, first_of, allowed_choice, choice_in_mode}

either : (x y : ℕ) → x < 2 → y < 2 → (max x y == 1) ≡ (x == 1 || y == 1)
either zero zero h i = refl
either zero (suc zero) h i = refl
either (suc zero) zero h i = refl
either (suc zero) (suc zero) h i = refl
either zero (suc (suc y)) h i = absurd (omega arith)
either (suc zero) (suc (suc y)) h i = absurd (omega arith)
either (suc (suc x)) y h i = absurd (omega arith)

both : (x y : ℕ) → x < 2 → y < 2 → (min x y == 1) ≡ (x == 1 && y == 1)
both zero zero h i = refl
both zero (suc zero) h i = refl
both (suc zero) zero h i = refl
both (suc zero) (suc zero) h i = refl
both zero (suc (suc y)) h i = absurd (omega arith)
both (suc zero) (suc (suc y)) h i = absurd (omega arith)
both (suc (suc x)) y h i = absurd (omega arith)

pub in_either : (a b k : ℕ) → in_mask (bit_or a b) k ≡ (in_mask a k || in_mask b k)
in_either a b k = ap (λ n. n == 1) (bit_at_or a b k) ∙ either (bit_at a k) (bit_at b k) (bit_at-lt a k) (bit_at-lt b k)

pub in_both : (a b k : ℕ) → in_mask (bit_and a b) k ≡ (in_mask a k && in_mask b k)
in_both a b k = ap (λ n. n == 1) (bit_at_and a b k) ∙ both (bit_at a k) (bit_at b k) (bit_at-lt a k) (bit_at-lt b k)

pub in_none : (k : ℕ) → in_mask 0 k ≡ false
in_none k = ap (λ n. n == 1) (bit_at-zero k)

-- ---- What a status lets through

none_set : (n : ℕ) → not (n == 0) ≡ false → n ≡ 0
none_set n is = grind arith

-- bits of others, none of which is set
fewer_bits : (sr : Status) (some all : ℕ) → bit_and all some ≡ some → has_bits sr all ≡ false → has_bits sr some ≡ false
fewer_bits sr some all within none =
    ap (λ n. not (n == 0)) (ap (bit_and sr.bits) (sym within) ∙ sym (and_assoc some sr.bits all) ∙ ap (λ n. bit_and n some) (none_set (bit_and sr.bits all) none))

pub no_choice : (k : ℕ) (sr : Status) (ready : ReadyRec) (events : EnabledRec) → has_bits sr (EEBLE + IEBLE) ≡ false → choice_by k sr ready events ≡ None
no_choice k sr ready events none =
    ap₂ (λ interrupts lets. first_of (allowed_choice interrupts (choice_in_mode k ready events true)) (allowed_choice lets (choice_in_mode k ready events false)))
    (fewer_bits sr IEBLE (EEBLE + IEBLE) refl none) (fewer_bits sr EEBLE (EEBLE + IEBLE) refl none)

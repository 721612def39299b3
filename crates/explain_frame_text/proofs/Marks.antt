-- Places behind the end of a line.
use Rattle.std.proofs.Common.{◌≡◌, ℕ, zero, suc, ◌<◌, List, [], ◌∷◌, ◌++◌, length, map, take, drop, min, refl, sym, ap, ◌∙◌, arith}
use Rattle.explain_model.specs.Words.{words_after, words_left}
use Rattle.std.specs.Prelude.{codes, decimal}
use Rattle.explain_model.specs.Quote.{under_byte, mark_shown}

take_nothing : (n : ℕ) → take {A = ℕ} n [] ≡ []
take_nothing zero = refl
take_nothing (suc n) = refl

drop_nothing : (n : ℕ) → drop {A = ℕ} n [] ≡ []
drop_nothing zero = refl
drop_nothing (suc n) = refl

take_capped : (at : ℕ) (l : List ℕ) → take (min at (length l)) l ≡ take at l
take_capped at [] = let none : min at 0 ≡ 0 = omega arith in ap (λ n. take {A = ℕ} n []) none ∙ sym (take_nothing at)
take_capped zero (b ∷ l) = let none : min 0 (length (b ∷ l)) ≡ 0 = omega arith in ap (λ n. take n (b ∷ l)) none
take_capped (suc at) (b ∷ l) =
    let next : min (suc at) (length (b ∷ l)) ≡ suc (min at (length l)) = omega arith in
    ap (λ n. take n (b ∷ l)) next ∙ ap (λ (x : List ℕ). b ∷ x) (take_capped at l)

pub mark_capped : (number : ℕ) (l : List ℕ) (at : ℕ) → mark_shown number l (min at (length l)) ≡ mark_shown number l at
mark_capped number l at = ap (λ (x : List ℕ). map under_byte (decimal number) ++ (codes " | " ++ (map under_byte x ++ codes "^\n"))) (take_capped at l)

drop_beyond : (at : ℕ) (l : List ℕ) → length l < at → drop at l ≡ []
drop_beyond at [] less = drop_nothing at
drop_beyond zero (b ∷ l) less = absurd (omega arith)
drop_beyond (suc at) (b ∷ l) less = drop_beyond at l (omega arith)

-- no word is there
pub none_beyond : (l : List ℕ) (at : ℕ) → length l < at → words_left l at ≡ []
unfolding words_after
none_beyond l at less = ap (λ (x : List ℕ). words_after 0 at x) (drop_beyond at l less)

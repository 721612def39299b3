-- Words and halves among the bytes of a list.
use Rattle.std.proofs.Common.{ℕ, zero, suc, ◌≡◌, ◌+◌, ◌*◌, ◌%◌, ◌^◌, ◌<◌, ◌≤◌, List, [], ◌∷◌, ◌++◌, length, get_or, set, take, drop, refl, ap, arith, w16, w32, to_z, of_z}
use Rattle.std.proofs.lemmas.Grind.{common_steps}
use Rattle.std.proofs.lemmas.Int.{of_z-to_z}
use native.Mathlib.Numerals.{unary_clauses}
use Rattle.xs_base.specs.Words.{sign_extended}
use Rattle.xs_model.specs.Memory.{half_here}

-- four numbers set one after another
pub set_four : (i : ℕ) (xs : List ℕ) (a b c d : ℕ) → i + 4 ≤ length xs → set (set (set (set xs i a) (i + 1) b) (i + 2) c) (i + 3) d ≡ take i xs ++ (a ∷ b ∷ c ∷ d ∷ [] ++ drop (i + 4) xs)
set_four zero [] a b c d h = absurd (omega arith)
set_four zero (p ∷ []) a b c d h = absurd (omega arith)
set_four zero (p ∷ q ∷ []) a b c d h = absurd (omega arith)
set_four zero (p ∷ q ∷ r ∷ []) a b c d h = absurd (omega arith)
set_four zero (p ∷ q ∷ r ∷ s ∷ rest) a b c d h = refl
set_four (suc i) [] a b c d h = absurd (omega arith)
set_four (suc i) (p ∷ rest) a b c d h =
    let is : set (set (set (set rest i a) (i + 1) b) (i + 2) c) (i + 3) d ≡ take i rest ++ (a ∷ b ∷ c ∷ d ∷ [] ++ drop (i + 4) rest) = set_four i rest a b c d (omega arith) in
    simp unary_clauses (ap (λ xs. p ∷ xs) (simp unary_clauses at is))

-- the half that two bytes of a list make
pub half_at : (i : ℕ) (xs : List ℕ) → i + 2 ≤ length xs → half_here (drop i xs) ≡ get_or xs i 0 + get_or xs (i + 1) 0 * 256
half_at i xs h = grind (arith, common_steps)

-- a half read as a signed number, as a word
signed_half : (n : ℕ) → n < 65536 → of_z w32 (to_z w16 n) ≡ sign_extended 16 (n % 65536)
signed_half n h = grind arith

word_bound : (n : ℕ) → sign_extended 16 (n % 65536) < 2 ^ 32
word_bound n = grind arith

-- the same, by way of a signed word
pub signed_half_word : (n : ℕ) → n < 65536 → of_z w32 (to_z w32 (of_z w32 (to_z w16 (of_z w16 (to_z w16 n))))) ≡ sign_extended 16 (n % 65536)
signed_half_word n h =
    let back : of_z w16 (to_z w16 n) ≡ n = of_z-to_z w16 n h in
    let word : of_z w32 (to_z w16 n) ≡ sign_extended 16 (n % 65536) = signed_half n h in
    rw (back, word) (of_z-to_z w32 (sign_extended 16 (n % 65536)) (word_bound n))

-- The lowest free thing of a list is free.
use Rattle.std.proofs.Common.{◌≡◌, ℕ, suc, ◌+◌, Bool, true, false, cond, Some, List, [], ◌∷◌, get_or, refl, ap, ◌∙◌, arith}
use Rattle.xs_model.specs.Free.{lowest_free}

-- of a list whose first has number n, the one with number j is not taken
abbrev IsFree : {A : Type 0} → (A → Bool) → List A → ℕ → ℕ → A → Type 0
IsFree is_taken list n j default = (i : ℕ) × (j ≡ n + i) × (is_taken (get_or list i default) ≡ false)

free_here : {A : Type 0} (is_taken : A → Bool) (a : A) (rest : List A) (n j : ℕ) (default : A) (taken : Bool) → is_taken a ≡ taken → cond taken (lowest_free is_taken rest (n + 1)) (Some n) ≡ Some j → (lowest_free is_taken rest (n + 1) ≡ Some j → IsFree is_taken rest (n + 1) j default) → IsFree is_taken (a ∷ rest) n j default
free_here is_taken a rest n j default true is found others =
    let there = others found in (suc there.0, omega (arith, there.1), there.2)
free_here is_taken a rest n j default false is found others = let e : n ≡ j = cc in (0, omega arith, is)

lowest_from : {A : Type 0} (is_taken : A → Bool) (list : List A) (n j : ℕ) (default : A) → lowest_free is_taken list n ≡ Some j → IsFree is_taken list n j default
unfolding lowest_free
lowest_from is_taken [] n j default found = cc
lowest_from is_taken (a ∷ rest) n j default found =
    free_here is_taken a rest n j default (is_taken a) refl found (lowest_from is_taken rest (n + 1) j default)

pub lowest_is_free : {A : Type 0} (is_taken : A → Bool) (list : List A) (j : ℕ) (default : A) → lowest_free is_taken list 0 ≡ Some j → is_taken (get_or list j default) ≡ false
lowest_is_free is_taken list j default found =
    let there = lowest_from is_taken list 0 j default found in
    let e : j ≡ there.0 = omega (arith, there.1) in ap (λ i. is_taken (get_or list i default)) e ∙ there.2

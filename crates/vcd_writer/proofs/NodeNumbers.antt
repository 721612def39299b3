-- The numbers that a further node may have.
use Rattle.std.proofs.Common.{◌≡◌, ℕ, suc, ◌+◌, ◌-◌, ◌<◌, true, false, List, [], ◌∷◌, length, get_or, refl, ◌∙◌, arith}
use Rattle.std.specs.Prelude.{find, bytes_eq, if◌then◌else◌, Option, Some}
use Rattle.std.proofs.lemmas.Bool.{cond-true, cond-false}
use Rattle.sys_plan.specs.Plan.{numbers_from}
use Rattle.wave_model.specs.Lines.{scope_line}
use Rattle.wave_model.specs.Reads.{least_number}

-- one more than the last number
pub least-last : (numbers : List ℕ) → 0 < length numbers → get_or numbers (length numbers - 1) 0 + 1 ≡ least_number numbers
least-last [] some = absurd (omega (arith, some))
least-last (n ∷ []) some = refl
least-last (n ∷ m ∷ rest) some =
    let at : length (n ∷ m ∷ rest) - 1 ≡ suc (length (m ∷ rest) - 1) = omega arith in
    rw at (least-last (m ∷ rest) (omega arith))

-- the node whose scope a line begins, among those with these numbers
abbrev pub scope_from : List ℕ → ℕ → Option ℕ
scope_from line n = find (λ number. bytes_eq (scope_line number) line) (numbers_from n (100 - n))

-- the first of them, or one of those after it
first-or-later : (line : List ℕ) (n : ℕ) → n < 100 → scope_from line n ≡ (if bytes_eq (scope_line n) line then Some n else scope_from line (n + 1))
first-or-later line n low = let one : 100 - n ≡ suc (100 - (n + 1)) = omega arith in rw one refl

pub first-is : (line : List ℕ) (n : ℕ) → n < 100 → bytes_eq (scope_line n) line ≡ true → scope_from line n ≡ Some n
first-is line n low is = first-or-later line n low ∙ cond-true _ _ _ is

pub first-not : (line : List ℕ) (n : ℕ) → n < 100 → bytes_eq (scope_line n) line ≡ false → scope_from line n ≡ scope_from line (n + 1)
first-not line n low is = first-or-later line n low ∙ cond-false _ _ _ is

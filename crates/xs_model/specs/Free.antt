-- The lowest of what is free.
use Rattle.std.specs.Prelude.{ℕ, ◌+◌, Bool, if◌then◌else◌, Option, Some, None, List, [], ◌∷◌}

-- the number of the first of a list that is not taken, where its first has number n
unfoldable pub lowest_free : {A : Type 0} → (A → Bool) → List A → ℕ → Option ℕ
lowest_free is_taken [] n = None
lowest_free is_taken (a ∷ rest) n = if is_taken a then lowest_free is_taken rest (n + 1) else Some n

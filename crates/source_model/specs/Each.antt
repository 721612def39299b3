-- What a function gives for each element, where it gives one for each.
use Rattle.std.specs.Prelude.{Option, Some, None, List, [], ◌∷◌}

-- one more in front
abbrev pub put_first : {A : Type 0} → Option A → Option (List A) → Option (List A)
put_first None after = None
put_first (Some x) None = None
put_first (Some x) (Some after) = Some (x ∷ after)

unfoldable pub all_some : {A B : Type 0} → (A → Option B) → List A → Option (List B)
all_some f [] = Some []
all_some f (x ∷ xs) = put_first (f x) (all_some f xs)

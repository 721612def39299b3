-- What the fields of an instruction keep of values that are not yet known to be in range.
use Rattle.std.specs.Prelude.{ℕ, ◌+◌, ◌%◌, List, [], ◌∷◌}
use Rattle.xs_instructions.specs.declared.rows.Part.{Part}
use Rattle.xs_instructions.specs.declared.rows.Part.TheVariants.{Short, Exactly, Label}
use Rattle.xs_instructions.specs.Operands.{at}

-- what is made of the value of each part, the first of them having this number
abbrev pub each_value : (Part → ℕ → ℕ) → ℕ → List Part → List ℕ → List ℕ
each_value f k [] values = []
each_value f k (p ∷ parts) values = f p (at values k) ∷ each_value f (k + 1) parts values

-- what the field of a part keeps of a value: its low byte, or its low two bytes
abbrev pub kept_of : Part → ℕ → ℕ
kept_of Short v = v % 65536
kept_of Label v = v % 65536
kept_of (Exactly n) v = n
kept_of _ v = v % 256

-- the same of all values
abbrev pub kept : List Part → List ℕ → List ℕ
kept parts values = each_value kept_of 0 parts values

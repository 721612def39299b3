-- The number that a hasher of names takes first.
use Rattle.std.specs.Prelude.{ℕ, List}
use Rattle.std.specs.Hash.DefaultHasher.{initial, write, finish}

-- the number of a source, hashed from all its bytes
abbrev pub source_key : List ℕ → ℕ
source_key text = finish (write initial text)

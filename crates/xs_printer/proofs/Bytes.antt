-- The bytes of a list are below 256.
use Rattle.std.proofs.Common.{ℕ, ◌<◌, List, [], ◌∷◌, get_or, Fits, w8}
use Rattle.std.specs.Prelude.{suc}
use Rattle.std.proofs.Math.Facts.{Fits-lt-pow}
use Rattle.std.specs.List.{AllByRecursion}

abbrev pub IsByte : ℕ → Type 0
IsByte b = b < 256

pub all_bytes : (bytes : List ℕ) → ((i : ℕ) → Fits w8 (get_or bytes i 0)) → AllByRecursion IsByte bytes
all_bytes [] h = tt
all_bytes (b ∷ bytes) h = (Fits-lt-pow {w = w8} {n = b} (h 0), all_bytes bytes (λ i. h (suc i)))

-- An end at which something was seen.
use Rattle.std.proofs.Common.{◌≡◌, ℕ, zero, suc, Option, Some, None, List, [], ◌∷◌, get_or, slice_get, ap}
use Rattle.std.proofs.lemmas.Option.{none-some}
use Rattle.ahead_limits.specs.declared.horizon.Seen.{Seen}

pub got : (xs : List (Option Seen)) (i : ℕ) (s : Seen) → get_or xs i None ≡ Some s → slice_get xs i ≡ Some (Some s)
got [] i s h = absurd (none-some s h)
got (x ∷ xs) zero s h = ap (λ (o : Option Seen). Some o) h
got (x ∷ xs) (suc i) s h = got xs i s h

-- A text to which pieces were put one after the other.
use Rattle.std.proofs.Common.{◌≡◌, ℕ, List, ◌++◌, ap, ◌∙◌, append_assoc}

-- what is put behind a text that has a piece at its end is put behind that piece
pub behind : (text before piece rest : List ℕ) → text ≡ before ++ piece → text ++ rest ≡ before ++ (piece ++ rest)
behind text before piece rest h = ap (λ (t : List ℕ). t ++ rest) h ∙ append_assoc before piece rest

-- Pieces that are put behind each other.
use Rattle.std.proofs.Common.{◌≡◌, ℕ, List, ◌++◌, ap, ◌∙◌, append_assoc}

-- a piece and the rest behind a text, where the text with the piece is known
pub behind : (after before piece rest : List ℕ) → after ≡ before ++ piece → after ++ rest ≡ before ++ (piece ++ rest)
behind after before piece rest is = ap (λ (t : List ℕ). t ++ rest) is ∙ append_assoc before piece rest

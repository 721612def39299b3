-- What pieces come to, one behind the other.
use Rattle.std.proofs.Common.{◌≡◌, ℕ, List, [], ◌∷◌, ◌++◌, ◌∙◌, refl, ap, append_assoc}
use Rattle.std.proofs.lemmas.List.{append-nil}
use Rattle.std.specs.List.{flat_map}
use Rattle.state_text.specs.declared.pieces.Piece.{Piece}
use Rattle.state_text.specs.PieceTexts.{piece_text, pieces_text, pieces_before}

pub all_text : (pieces : List Piece) → flat_map piece_text pieces ≡ pieces_text pieces
all_text [] = refl
all_text (piece ∷ []) = append-nil (piece_text piece)
all_text (piece ∷ next ∷ pieces) = ap (λ (t : List ℕ). piece_text piece ++ t) (all_text (next ∷ pieces))

pub all_before : (pieces : List Piece) (rest : List ℕ) → flat_map piece_text pieces ++ rest ≡ pieces_before pieces rest
all_before [] rest = refl
all_before (piece ∷ pieces) rest =
    append_assoc (piece_text piece) (flat_map piece_text pieces) rest ∙ ap (λ (t : List ℕ). piece_text piece ++ t) (all_before pieces rest)

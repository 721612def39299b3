use Rattle.std.proofs.Common.{◌≡◌, ◌++◌, take}
use Rattle.std.specs.List.{flat_map}
use Rattle.state_text.specs.PieceTexts.{piece_text}
use Rattle.state_text.proofs.pieces.append_each.Given as goal

abbrev pub invariant-loop-piece : goal.invariant-loop-piece
invariant-loop-piece l = l.out ≡ l.initial.out ++ flat_map piece_text (take l.piece-index l.pieces)

use Rattle.std.proofs.Common.{◌≡◌, ◌++◌, map, take}
use Rattle.std.specs.List.{flat_map}
use Rattle.xs_instructions.specs.Spelling.{spelled_piece}
use Rattle.source_model.specs.Canonical.{piece_text}
use Rattle.xs_printer.proofs.statement.append_pieces.Given as goal

abbrev pub invariant-loop-piece : goal.invariant-loop-piece
invariant-loop-piece l = l.out ≡ l.initial.out ++ flat_map (piece_text l.image.symbols) (map spelled_piece (take l.piece-index l.pieces))

-- Pieces that lines are put together from.
use Rattle.std.specs.Prelude.{ℕ, List, [], ◌∷◌, ◌++◌, decimal}
use Rattle.trace_model.specs.EventLines.{hex_word}
use Rattle.look_model.specs.Resources.{chan_name, timer_name, sync_name, lock_name}
use Rattle.look_model.specs.Waits.{thread_name}
use Rattle.look_model.specs.Network.{input_name}
use Rattle.state_text.specs.declared.pieces.Piece.{Piece}
use Rattle.state_text.specs.declared.pieces.Piece.TheVariants.{Words, Number, Hex, Thread, Chan, Timer, Sync, Lock, Input}

abbrev pub piece_text : Piece → List ℕ
piece_text (Words words) = words.now
piece_text (Number n) = decimal n
piece_text (Hex word) = hex_word word
piece_text (Thread k) = thread_name k
piece_text (Chan id c) = chan_name id c
piece_text (Timer n) = timer_name n
piece_text (Sync n) = sync_name n
piece_text (Lock n) = lock_name n
piece_text (Input id i) = input_name id i

-- one behind the other
abbrev pub pieces_text : List Piece → List ℕ
pieces_text [] = []
pieces_text (piece ∷ []) = piece_text piece
pieces_text (piece ∷ next ∷ pieces) = piece_text piece ++ pieces_text (next ∷ pieces)

-- and then more
abbrev pub pieces_before : List Piece → List ℕ → List ℕ
pieces_before [] rest = rest
pieces_before (piece ∷ pieces) rest = piece_text piece ++ pieces_before pieces rest

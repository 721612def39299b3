-- What is left of a line's tokens from a place on, and a token as it is read.
use Rattle.std.specs.Prelude.{ℕ, List, drop}
use Rattle.explain_model.specs.Placed.{Placed, placed_after}
use Rattle.placed_tokens.specs.declared.token.Token.{Token}

abbrev pub placed_left : List ℕ → ℕ → List Placed
placed_left line at = placed_after 0 at (drop at line)

abbrev pub placed_of : Token → Placed
placed_of t = record { at = t.at; token = record { kind = t.kind; bytes = t.bytes.now } }

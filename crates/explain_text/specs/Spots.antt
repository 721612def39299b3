-- The first of the tokens that are left of a line.
use Rattle.std.specs.Prelude.{◌≡◌, ℕ, Option, Some, None, List, [], ◌∷◌}
use Rattle.explain_model.specs.Placed.{Placed}
use Rattle.placed_tokens.specs.Tokens.{placed_left, placed_of}
use Rattle.placed_tokens.specs.declared.token.Token.{Token}

abbrev pub IsFirst : List Placed → List ℕ → Option Token → Type 0
IsFirst tokens line None = tokens ≡ []
IsFirst tokens line (Some t) = tokens ≡ placed_of t ∷ placed_left line t.end

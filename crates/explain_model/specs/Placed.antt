-- The tokens of a line with the places at which they stand, counted from 0.
use Rattle.std.specs.Prelude.{ℕ, zero, suc, ◌+◌, ◌||◌, if◌then◌else◌, List, [], ◌∷◌, ◌++◌, length, take}
use Rattle.xs_text.specs.Bytes.{is_blank}
use Rattle.xs_text.specs.Tokens.{Token, token_of, tail_length, begins_comment, skip_at}
use Rattle.source_model.specs.Statement.{begins_label}

-- a token, and the place of its first byte
pub record Placed : Type 0 where
  pub at : ℕ
  pub token : Token

-- the place behind its last byte
abbrev pub end_of : Placed → ℕ
end_of placed = placed.at + length placed.token.bytes

-- the token that begins at b, which stands at a place
abbrev pub placed_at : ℕ → ℕ → List ℕ → List Placed
placed_at at b rest =
    if is_blank b || begins_comment b rest then []
    else record { at = at; token = token_of (b ∷ take (tail_length b rest) rest) } ∷ []

-- the tokens after the first bytes, `skip` many, where the first byte stands at a place
unfoldable pub placed_after : ℕ → ℕ → List ℕ → List Placed
placed_after skip at [] = []
placed_after zero at (b ∷ rest) = placed_at at b rest ++ placed_after (skip_at b rest) (at + 1) rest
placed_after (suc skip) at (b ∷ rest) = placed_after skip (at + 1) rest

-- the tokens of a line
abbrev pub placed_tokens : List ℕ → List Placed
placed_tokens line = placed_after 0 0 line

-- the names of the labels at the front
unfoldable pub placed_labels : List Placed → List Placed
placed_labels [] = []
placed_labels (p ∷ []) = []
placed_labels (p ∷ c ∷ rest) = if begins_label p.token c.token then p ∷ placed_labels rest else []

-- the tokens after them
unfoldable pub placed_statement : List Placed → List Placed
placed_statement [] = []
placed_statement (p ∷ []) = p ∷ []
placed_statement (p ∷ c ∷ rest) = if begins_label p.token c.token then placed_statement rest else p ∷ c ∷ rest

-- What is left of a list of values.
use Rattle.std.specs.Prelude.{ℕ, ◌+◌, Option, Some, None, List, [], length}
use denote.Ref.{Bor}
use Rattle.xs_text.specs.Tokens.{tokens_of}
use Rattle.source_model.specs.declared.layout.Width.{Width}
use Rattle.source_model.specs.Operands as model
use Rattle.source_model.specs.Values.{listed_values}

-- the values that are left, by the text after a comma, if there is one
abbrev pub values_left : Width → Option (Bor (List ℕ)) → Option (List model.Amount)
values_left width None = Some []
values_left width (Some text) = listed_values width (tokens_of text.now)

-- how many tokens are left, a comma included
abbrev pub left_length : Option (Bor (List ℕ)) → ℕ
left_length None = 0
left_length (Some text) = 1 + length (tokens_of text.now)

-- How tokens stand in bytes.
use Rattle.std.specs.Prelude.{ℕ, ◌==◌, if◌then◌else◌}
use Rattle.xs_base.specs.declared.token.Token.{Token}
use Rattle.xs_base.specs.declared.token.Token.TheVariants.{Byte, Ctrl}
use Rattle.byte_forms.specs.Forms.{Form, byte, below, both, seen_as}

abbrev pub token_of : ℕ × ℕ → Token
token_of p = if p.0 == 0 then Byte p.1 else Ctrl p.1

abbrev pub kind_and_value : Token → ℕ × ℕ
kind_and_value (Byte b) = (0, b)
kind_and_value (Ctrl c) = (1, c)

-- a kind, 0 for a data byte and 1 for a control token, and its value
unfoldable pub token : Form Token
token = seen_as (both (below byte 2) (λ kind. byte)) token_of kind_and_value

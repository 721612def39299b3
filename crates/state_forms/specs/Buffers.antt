-- How buffers of tokens stand in bytes.
use Rattle.std.specs.Prelude.{◌+◌, ◌<◌, ◌≤◌, Bool, if◌then◌else◌, List, length}
use Rattle.std.specs.List.{AllByRecursion}
use Rattle.arrayvec.specs.ArrayVec.{ArrayVec}
use Rattle.xs_base.specs.declared.numbers.TheConstants.{BUFFER_TOKENS}
use Rattle.xs_base.specs.declared.token.Token.{Token}
use Rattle.xs_base.specs.declared.token.Token.TheVariants.{Byte, Ctrl}
use Rattle.byte_forms.specs.Forms.{Form, byte, below, seen_as, repeat, counted}
use Rattle.state_forms.specs.Tokens.{token}

abbrev pub buffer_of : List Token → ArrayVec Token
buffer_of tokens = record { items = tokens }

abbrev pub tokens_in : ArrayVec Token → List Token
tokens_in buffer = buffer.items

-- How many tokens there are, and the tokens, the oldest first: at most 8, and none where none may be there. A wrong count is refused.
unfoldable pub buffer : Bool → Form (ArrayVec Token)
buffer may_have =
    seen_as (counted (below byte (if may_have then BUFFER_TOKENS + 1 else 1)) (λ n. repeat n token)) buffer_of tokens_in

-- the value of a token is a byte
abbrev pub TokenFits : Token → Type 0
TokenFits (Byte b) = b < 256
TokenFits (Ctrl c) = c < 256

-- what every buffer has
pub record BufferFits (buffer : ArrayVec Token) : Type 0 where
  pub count : length buffer.items ≤ BUFFER_TOKENS
  pub tokens : AllByRecursion TokenFits buffer.items

-- Which buffers have the form.
use Rattle.std.proofs.Common.{◌≡◌, ◌<◌, Bool, true, false, List, [], length, refl, ap, arith}
use Rattle.std.proofs.lemmas.Bool.{ltb-true, lt-ltb}
use Rattle.std.proofs.lemmas.List.{nil_from_length}
use Rattle.arrayvec.specs.ArrayVec.{ArrayVec}
use Rattle.xs_base.specs.declared.token.Token.{Token}
use Rattle.xs_base.specs.declared.token.Token.TheVariants.{Byte, Ctrl}
use Rattle.state_forms.specs.Tokens.{token}
use Rattle.state_forms.specs.Buffers.{buffer, TokenFits, BufferFits}
use Rattle.state_forms.proofs.Holding.{repeat_of, repeat_holds, each_as}

token_of : (t : Token) → TokenFits t → token.Holds t
unfolding token
token_of (Byte b) fits = ((omega arith, refl), fits)
token_of (Ctrl c) fits = ((omega arith, refl), fits)

token_holds : (t : Token) → token.Holds t → TokenFits t
unfolding token
token_holds (Byte b) h = h.1
token_holds (Ctrl c) h = h.1

none : (items : List Token) → length items < 1 → items ≡ []
none items lt = nil_from_length items (omega arith)

-- where none may be there, there is none
pub buffer_holds : (may_have : Bool) (tokens : ArrayVec Token) → (buffer may_have).Holds tokens → BufferFits tokens × (may_have ≡ false → tokens.items ≡ [])
unfolding buffer
buffer_holds true tokens h = (
  record { count = let lt = ltb-true (length tokens.items) 9 h.0.1 in omega arith; tokens = each_as token_holds tokens.items (repeat_holds token (length tokens.items) tokens.items h.1) },
  λ never. absurd cc,
)
buffer_holds false tokens h = (
  record { count = let lt = ltb-true (length tokens.items) 1 h.0.1 in omega arith; tokens = each_as token_holds tokens.items (repeat_holds token (length tokens.items) tokens.items h.1) },
  λ _. none tokens.items (ltb-true (length tokens.items) 1 h.0.1),
)

pub buffer_of : (may_have : Bool) (tokens : ArrayVec Token) → BufferFits tokens → (may_have ≡ false → tokens.items ≡ []) → (buffer may_have).Holds tokens
unfolding buffer
buffer_of true tokens fits empty =
    let count = fits.count in
    ((omega arith, lt-ltb (length tokens.items) 9 (omega arith)), repeat_of token (length tokens.items) tokens.items refl (each_as token_of tokens.items fits.tokens))
buffer_of false tokens fits empty =
    let len : length tokens.items ≡ 0 = ap (λ (xs : List Token). length xs) (empty refl) in
    ((omega arith, lt-ltb (length tokens.items) 1 (omega arith)), repeat_of token (length tokens.items) tokens.items refl (each_as token_of tokens.items fits.tokens))

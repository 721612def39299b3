-- The law of tokens.
use Rattle.std.proofs.Common.{◌≡◌, ℕ, zero, suc, IsTrue, ltb, refl, arith}
use Rattle.std.proofs.lemmas.Bool.{ltb-true}
use Rattle.xs_base.specs.declared.token.Token.{Token}
use Rattle.xs_base.specs.declared.token.Token.TheVariants.{Byte, Ctrl}
use Rattle.byte_forms.specs.Laws.{Lawful}
use Rattle.state_forms.specs.Tokens.{token, token_of, kind_and_value}
use Rattle.byte_forms.proofs.Fields.{byte-lawful}
use Rattle.byte_forms.proofs.Parts.{both-lawful, below-lawful, seen-lawful}

token_back : (kind value : ℕ) → IsTrue (ltb kind 2) → kind_and_value (token_of (kind, value)) ≡ (kind, value)
token_back zero value h = refl
token_back (suc zero) value h = refl
token_back (suc (suc kind)) value h = absurd (omega (arith, ltb-true (suc (suc kind)) 2 h))

token_again : (t : Token) → token_of (kind_and_value t) ≡ t
token_again (Byte b) = refl
token_again (Ctrl c) = refl

pub token-lawful : Lawful token
unfolding token
token-lawful = seen-lawful token_of kind_and_value (both-lawful (below-lawful 2 byte-lawful) (λ kind. byte-lawful)) (λ p h. token_back p.0 p.1 h.0.1) token_again

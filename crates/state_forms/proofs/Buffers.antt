-- The law of buffers of tokens.
use Rattle.std.proofs.Common.{◌+◌, Bool, cond, refl}
use Rattle.byte_forms.specs.Laws.{Lawful}
use Rattle.state_forms.specs.Buffers.{buffer, buffer_of, tokens_in}
use Rattle.byte_forms.proofs.Fields.{byte-lawful}
use Rattle.byte_forms.proofs.Parts.{below-lawful, seen-lawful}
use Rattle.byte_forms.proofs.Lists.{counted-lawful, repeat-lawful}
use Rattle.state_forms.proofs.Tokens.{token-lawful}

pub buffer-lawful : (may_have : Bool) → Lawful (buffer may_have)
unfolding buffer
buffer-lawful may_have =
    seen-lawful buffer_of tokens_in (counted-lawful (below-lawful (cond may_have (8 + 1) 1) byte-lawful) (λ n. repeat-lawful n token-lawful) (λ n xs h. h.0))
    (λ xs h. refl) (λ buffer. refl)

use Rattle.std.proofs.Common.{ℕ, ◌≡◌, ◌<◌, ◌∙◌, refl, List, length, arith}
use Rattle.std.specs.List.{list_any}
use Rattle.std.proofs.lemmas.List.{take_all}
use Rattle.std.proofs.lemmas.Bool.{lt-leb}
use Rattle.xs_base.specs.declared.token.Token.{Token}
use Rattle.xs_model.specs.Waits.{has_tokens, is_control}
use Rattle.chan_ends.proofs.chan_end.has_tokens.Goals as goal

-- where fewer are there, they are the first so many
fewer : (k : ℕ) (tokens : List Token) → length tokens < k → list_any is_control tokens ≡ has_tokens k tokens
fewer k tokens less = rw (lt-leb k (length tokens) less, take_all k tokens (omega (arith, less))) refl

pub returns-else-tokens-count : goal.returns-else-tokens-count
returns-else-tokens-count c =
    c.any_control.ensures ∙ fewer c.args.count c.args.tokens.now (omega (arith, c.if-tokens-count.false, c.from-count.ensures))

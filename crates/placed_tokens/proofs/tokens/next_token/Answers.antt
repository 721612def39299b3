use Rattle.std.proofs.Common.{refl}
use Rattle.placed_tokens.proofs.Places.{first_placed, none_in_line}
use Rattle.placed_tokens.proofs.tokens.next_token.Goals as goal

pub returns-in_default-clause-token : goal.returns-in_default-clause-token
returns-in_default-clause-token c = none_in_line _ _ c.requires (c.in_default.ensures.none.0 refl)

pub returns-clause-token : goal.returns-clause-token
returns-clause-token c =
    first_placed c.args.line.now c.args.at c.in-Some.tok.from c.in-Some.tok.to _ _ c.in-Some.ensures.begins c.in-Some.ensures.not_empty c.in-Some.ensures.in_line
    c.in-Some.ensures.past_blanks c.in-Some.ensures.token refl
